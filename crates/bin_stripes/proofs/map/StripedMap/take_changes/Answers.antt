use Rattle.std.proofs.Common.{◌≡◌, sym, ap, ◌∙◌}
use Rattle.bin_stripes.proofs.StepLemmas.{holds_after}
use Rattle.bin_stripes.proofs.PassLemmas.{rests_of, if_ok_so}
use Rattle.stripe_rule.specs.Steps.{view_of}
use Rattle.bin_stripes.specs.Passes.{stripes_of}
use Rattle.bin_stripes.proofs.SavingLemmas.{saves_stripe_of, all_of}
use Rattle.bin_stripes.proofs.map.StripedMap.take_changes.Goals as goal

pub make_save-answer-requires-clause-held : goal.make_save-answer-requires-clause-held
make_save-answer-requires-clause-held g c = let known = c.pass.inside.known in let me = c.take-seat.result.me in
    holds_after _ _ c.self.inside.table.shared.table_id.slots c.args.stripe me c.take_stripe.new.seat.me
    (rests_of known.table_id known.views me c.pass.invariant c.take-seat.ensures.2 c.take-seat.ensures.3).some c.take_stripe.ensures.took

pub returns-clause-ok : goal.returns-clause-ok
returns-clause-ok g c = let id = c.pass.inside.known.table_id in let sid = c.self.inside.table.shared.table_id in let e : id ≡ sid = ap (λ p. p.map) c.pass.view_is ∙ (c.requires.map ∙ sym c.self.view_is) in
    let known = c.pass.inside.known in let me = c.take-seat.result.me in let held = c.take_stripe.new.seat.me in let me' = c.make_save-answer.new.seat.me in
    let k = c.args.stripe in let before = c.args.changes.now in let after = c.make_save-answer.new.changes in
    let rests = rests_of known.table_id known.views me c.pass.invariant c.take-seat.ensures.2 c.take-seat.ensures.3 in
    if_ok_so _ _ c.make_save-answer.result (λ came l. saves_stripe_of id known.views me c.take-seat.ensures.2 k me' c.put.new.self.table_id c.put.new.self.views c.put.ensures.2 c.args.pass.now c.pass.view_is
    sid e _ _ held before after came rests c.take_stripe.ensures.took l)
    c.make_save-answer.ensures.ok

pub returns-clause-all : goal.returns-clause-all
returns-clause-all g c = let sid = c.self.inside.table.shared.table_id in let me' = c.make_save-answer.new.seat.me in
    if_ok_so _ _ c.make_save-answer.result
    (λ came all asked. all_of (stripes_of sid) (stripes_of c.args.self.now) c.args.stripe c.args.how.most came me'.0 _ (ap stripes_of c.self.view_is) (sym (ap view_of c.put.ensures.2)) (all asked))
    c.make_save-answer.ensures.all
