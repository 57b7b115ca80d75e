use Rattle.std.proofs.Common.{◌≡◌, List}
use Rattle.stripe_rule.specs.Gains.{least, Carries}
use Rattle.stripe_rule.specs.Steps.{HasTaken}
use Rattle.bins.specs.Copies.{WeighSame}
use Rattle.bins.specs.Table.{Table}
use Rattle.atomic_methods.specs.Whole.{all_entries}
use Rattle.bin_stripes.specs.Histories.{empty, does, Sound}
use Rattle.bin_stripes.proofs.close.entries_out.Given as goal

abbrev pub invariant-loop-stripe : goal.invariant-loop-stripe
invariant-loop-stripe g l = (l.seat.table_id ≡ l.initial.seat.table_id) × Carries l.seat.me.0 (least l.seat.me.0.numbers) × Sound l.table.table_id.slots l.seat.me.0
    × ((tables : List Table) × (WeighSame l.found (all_entries tables) × HasTaken (does l.table.table_id.slots) empty l.initial.seat.me.0 l.stripe tables l.seat.me.0))
