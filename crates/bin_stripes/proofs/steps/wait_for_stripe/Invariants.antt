use Rattle.std.proofs.Common.{◌≡◌, false}
use Rattle.stripe_rule.specs.Steps.{Extends}
use Rattle.bin_stripes.proofs.steps.wait_for_stripe.Given as goal

abbrev pub invariant-loop : goal.invariant-loop
invariant-loop g l = (l.seat.table_id ≡ l.initial.seat.table_id) × (l.seat.id ≡ l.initial.seat.id)
    × (l.seat.me.1 ≡ l.initial.seat.me.1) × Extends l.initial.seat.me.0 l.stripe false l.seat.me.0
