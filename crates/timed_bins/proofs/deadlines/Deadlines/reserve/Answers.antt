use Rattle.timed_bins.proofs.ListedLemmas.{pushed, has_pushed, listed_reserved, room_reserved}
use Rattle.timed_bins.proofs.deadlines.Deadlines.reserve.Goals as goal

-- no row was added
pub invariant_of-self-in_err-make_row : goal.invariant_of-self-in_err-make_row
invariant_of-self-in_err-make_row g c =
    rw c.in_err-make_row.ensures.err (pushed _ _ _ _ c.in_ok-push.ensures.ok c.shorten.ensures)

-- the deadline is listed, and there is a row
pub invariant_of-self-2 : goal.invariant_of-self-2
invariant_of-self-2 g c =
    let copied = rw (c.copied.ensures, c.key.ensures.value) at c.in_ok-push.ensures.ok in
    listed_reserved _ _ _ _ _ c.in_ok-make_row.ensures.ok (has_pushed _ _ _ copied) (pushed _ _ _ _ c.in_ok-push.ensures.ok c.shorten.ensures)

pub returns-clause-ok : goal.returns-clause-ok
returns-clause-ok g c =
    let copied = rw (c.copied.ensures, c.key.ensures.value) at c.in_ok-push.ensures.ok in
    room_reserved _ _ _ _ c.in_ok-make_row.ensures.ok (has_pushed _ _ _ copied)
