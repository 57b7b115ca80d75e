use Rattle.std.proofs.Common.{sym, ◌∙◌}
use Rattle.bins.proofs.MapEdits.{remove_absent}
use Rattle.timed_bins.proofs.RowLemmas.{empty_at, empty_listed, none_left, listed_still}
use Rattle.timed_bins.proofs.deadlines.Deadlines.clear.Goals as goal

-- there are no bins
pub returns-in_default : goal.returns-in_default
returns-in_default g c = rw (← c.self.view_is, c.in_default.is) (sym (remove_absent _ _ (empty_at _)))

-- no row is left
pub invariant_of-self-then-count-eq0 : goal.invariant_of-self-then-count-eq0
invariant_of-self-then-count-eq0 g c = empty_listed _ _ (none_left _ (sym c.count.ensures.value ∙ c.if-count-eq0.true))

-- the rows that are left are listed
pub invariant_of-self-else-count-eq0 : goal.invariant_of-self-else-count-eq0
invariant_of-self-else-count-eq0 g c =
    listed_still _ _ _ _ c.discard.ensures.others (rw c.in-Some.is at c.self.invariant)
