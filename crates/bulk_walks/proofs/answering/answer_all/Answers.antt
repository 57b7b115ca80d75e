use Rattle.std.proofs.Common.{◌≡◌, ◌++◌, take, drop, length, map, sym, ◌∙◌, ap, subst, List}
use Rattle.bulk_walks.specs.declared.part.Part.{Part}
use Rattle.bulk_walks.specs.Runs.{AreGathered, lists_with}
use Rattle.bulk_walks.specs.Kept.{AreAnswered}
use Rattle.workers.proofs.Working.{kept}
use Rattle.bulk_walks.proofs.StandLemmas.{are_answered}
use Rattle.bulk_walks.proofs.answering.answer_all.Goals as goal

pub returns : goal.returns
returns g c earlies had =
    let kind = c.args.walk.now.kind in
    let checked = c.args.walk.now.program.now in
    let arg = c.args.walk.now.arg.now in
    let parts = c.args.parts in
    let ks = c.answer_each.new.parts in
    let len : length ks ≡ length c.deref_mut.result.now = c.answer_each.auto.parts in
    let whole : take parts.len (ks ++ drop (length ks) parts.items) ≡ ks = kept parts.len ks parts.items (sym c.deref_mut.ensures.len ∙ sym len) in
    let told = c.in_ok-all.ensures ∙ ap (λ (ps : List Part). map (λ part. part.answers) ps) whole in
    subst (λ (olds : List Part). AreGathered kind checked arg earlies olds → AreAnswered kind checked arg (lists_with earlies olds) c.in_ok-all.all.items) c.deref_mut.ensures.value
    (are_answered kind checked arg c.deref_mut.result.now ks c.in_ok-all.all.items len c.answer_each.ensures.each told earlies) had
