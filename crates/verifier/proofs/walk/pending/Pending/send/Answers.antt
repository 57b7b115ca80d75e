use Rattle.std.proofs.Common.{◌≡◌, ◌<◌, ◌∙◌, Option, Some, None, length, get_or, sym, subst, rules}
use Rattle.std.proofs.lemmas.List.{get_or-set_same, get_or_default}
use Rattle.std.specs.Box.{with_value}
use Rattle.verifier.specs.declared.abstract_state.AbstractState.{AbstractState}
use Rattle.verifier.specs.Walks.{IsDescribed}
use Rattle.verifier.proofs.ArriveLemmas.{set_keeps}
use Rattle.verifier.proofs.walk.pending.Pending.send.Goals as goal

pub returns-in-Some-clause-sent : goal.returns-in-Some-clause-sent
returns-in-Some-clause-sent c = λ sizes s d.
    let items = c.reach.new.self.states.items in
    let within : c.args.unit < length items = search rules in
    rw (get_or-set_same items c.args.unit (Some (with_value c.in-Some.kept c.join.new.self)) None within) (c.in_ok-join.ensures.second sizes s d)

pub returns-in-Some-clause-keeps : goal.returns-in-Some-clause-keeps
returns-in-Some-clause-keeps c = λ other sizes s d.
    let items = c.reach.new.self.states.items in
    let unit = c.args.unit in
    let kept = c.in-Some.kept in
    let read = c.index_mut.result.now in
    let within : unit < length items = search rules in
    let is : get_or items unit None ≡ Some kept = get_or_default items unit None read within ∙ sym c.index_mut.ensures.value ∙ c.in-Some.is in
    let before = subst (λ (o : Option AbstractState). IsDescribed o sizes s) (sym (c.in_ok-reach.ensures.same other)) d in
    set_keeps sizes s items unit other kept (with_value kept c.join.new.self) within is (λ h. (rw c.deref_mut.ensures.value at c.in_ok-join.ensures.first) sizes s h) before
