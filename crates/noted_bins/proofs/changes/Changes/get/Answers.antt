use Rattle.std.proofs.Common.{arith}
use Rattle.noted_bins.proofs.MarkLemmas.{rows_length, row_told}
use Rattle.noted_bins.proofs.changes.Changes.get.Goals as goal

pub get-requires : goal.get-requires
get-requires c =
    let many = rows_length _ _ c.self.invariant in
    let lt = rw (← c.self.view_is) at c.requires in
    omega (arith, many, lt, c.self.invariant)

pub index-requires : goal.index-requires
index-requires c =
    let many = rows_length _ _ c.self.invariant in
    let lt = rw (← c.self.view_is) at c.requires in
    omega (arith, many, lt)

-- the row of this key and this mark
pub returns-clause-row : goal.returns-clause-row
returns-clause-row c =
    let many = rows_length _ _ c.self.invariant in
    let lt = rw (← c.self.view_is) at c.requires in
    rw (← c.self.view_is) (row_told _ _ _ _ _ _ _ c.self.invariant (omega (arith, many, lt)) c.index.ensures c.get.ensures.entry c.entry.ensures.saved)
