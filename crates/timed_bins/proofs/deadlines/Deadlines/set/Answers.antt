use Rattle.timed_bins.proofs.RowLemmas.{row_somewhere, listed_too, sets_to}
use Rattle.timed_bins.proofs.deadlines.Deadlines.set.Goals as goal

-- there is a row, so there are bins
pub unreachable-requires : goal.unreachable-requires
unreachable-requires g c =
    let has = rw (← c.self.view_is, c.in_default.is) at c.requires.has_row in row_somewhere _ _ has

pub invariant_of-self : goal.invariant_of-self
invariant_of-self g c =
    listed_too _ _ _ _ _ _ c.in-Ok.ensures.ok c.bytes_of.ensures (rw (← c.self.view_is) at c.requires.listed) (rw c.in-Some.is at c.self.invariant)

pub returns : goal.returns
returns g c = rw (← c.self.view_is, c.in-Some.is) (sets_to _ _ _ _ _ c.in-Ok.ensures.ok c.bytes_of.ensures)
