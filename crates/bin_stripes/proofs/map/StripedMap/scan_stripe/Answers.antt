use Rattle.std.proofs.Common.{sym, subst}
use Rattle.stripe_rule.specs.Gains.{seen_of}
use Rattle.bin_stripes.specs.Invoked.{AreOf}
use Rattle.bin_stripes.specs.Passes.{stripes_of}
use Rattle.bin_stripes.proofs.StepLemmas.{holds_after}
use Rattle.bin_stripes.proofs.StripeTables.{entries_are_of}
use Rattle.bin_stripes.proofs.PassLemmas.{rests_of, if_ok_so}
use Rattle.bin_stripes.proofs.map.StripedMap.scan_stripe.Goals as goal

pub make_scan-answer-requires-clause-held : goal.make_scan-answer-requires-clause-held
make_scan-answer-requires-clause-held g c = let known = c.pass.inside.known in let me = c.take-seat.result.me in
    holds_after _ _ c.self.inside.table.shared.table_id.slots c.args.stripe me c.take_stripe.new.seat.me
    (rests_of known.table_id known.views me c.pass.invariant c.take-seat.ensures.2 c.take-seat.ensures.3).some c.take_stripe.ensures.took

pub returns-clause-entries : goal.returns-clause-entries
returns-clause-entries g c = let sid = c.self.inside.table.shared.table_id in let k = c.args.stripe in
    if_ok_so _ _ c.make_scan-answer.result (λ found e. subst (λ z. AreOf (stripes_of z) k found.items) c.self.view_is
    (subst (λ es. AreOf sid.slots k es) (sym e.1.1) (entries_are_of sid.slots k e.0 (seen_of c.take_stripe.new.seat.me.0 k) e.1.0)))
    c.make_scan-answer.ensures.entries
