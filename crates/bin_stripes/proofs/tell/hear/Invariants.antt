use Rattle.std.proofs.Common.{◌≡◌}
use Rattle.stripe_rule.specs.Steps.{HasHeard, view_of}
use Rattle.bin_stripes.specs.Histories.{Sound}
use Rattle.bin_stripes.specs.Holding.{Rests}
use Rattle.bin_stripes.proofs.tell.hear.Given as goal

abbrev pub invariant-loop-stripe : goal.invariant-loop-stripe
invariant-loop-stripe g l = (l.seat.table_id ≡ l.initial.seat.table_id) × (l.seat.id ≡ l.initial.seat.id)
    × HasHeard (view_of l.from.views) l.initial.seat.me.0 l.stripe l.seat.me.0 × Rests l.seat.me × Sound l.stripes l.seat.me.0
