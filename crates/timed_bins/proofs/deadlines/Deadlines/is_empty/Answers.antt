use Rattle.timed_bins.proofs.RowLemmas.{none_without}
use Rattle.timed_bins.proofs.deadlines.Deadlines.is_empty.Goals as goal

-- each deadline is listed, and none is
pub returns : goal.returns
returns g c = rw (← c.self.view_is) (record { empty = λ yes. none_without _ _ c.self.invariant (c.is_empty.ensures yes) })
