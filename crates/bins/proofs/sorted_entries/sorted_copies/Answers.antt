use Rattle.bins.proofs.SortedCopies.{sorted_copies}
use Rattle.bins.proofs.sorted_entries.sorted_copies.Goals as goal

-- in key order, the copies are the table's entries
pub returns : goal.returns
returns c = let sorted = c.in_ok-sorted in
    record { order = λ table are. rw c.in_ok-copies.ensures (sorted_copies table _ sorted.sorted are sorted.ensures.moved sorted.ensures.order) }
