use Rattle.std.proofs.Common.{refl}
use Rattle.timed_bins.proofs.RowLemmas.{none_in}
use Rattle.timed_bins.proofs.deadlines.Deadlines.get.Goals as goal

-- there are no deadlines
pub returns-then-is_empty : goal.returns-then-is_empty
returns-then-is_empty g c = record { value = none_in _ _ (c.if-is_empty.ensures.empty refl) }
