use Rattle.std.proofs.Common.{arith}
use Rattle.noted_bins.proofs.MarkLemmas.{rows_length}
use Rattle.noted_bins.proofs.changes.Changes.len.Goals as goal

pub returns : goal.returns
returns c = let many = rows_length _ _ c.self.invariant in rw (← c.self.view_is) (record { value = omega (arith, many, c.len.ensures) })
