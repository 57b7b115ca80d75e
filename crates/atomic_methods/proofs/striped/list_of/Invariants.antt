use Rattle.std.proofs.Common.{take}
use Rattle.bins.specs.Copies.{WeighSame}
use Rattle.atomic_methods.specs.Whole.{all_entries}
use Rattle.atomic_methods.proofs.striped.list_of.Given as goal

-- the entries of the stripes so far
abbrev pub invariant-loop-stripe : goal.invariant-loop-stripe
invariant-loop-stripe l = WeighSame l.found (all_entries (take l.stripe-index l.stripes))
