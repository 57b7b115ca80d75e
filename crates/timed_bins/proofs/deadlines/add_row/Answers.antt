use Rattle.std.proofs.lemmas.Result.{on_ok_weaker}
use Rattle.timed_bins.proofs.RowLemmas.{sets_to}
use Rattle.timed_bins.proofs.deadlines.add_row.Goals as goal

-- the row goes to the bins that there are
pub returns-in-Some-clause-ok : goal.returns-in-Some-clause-ok
returns-in-Some-clause-ok g c = rw c.in-Some.is (on_ok_weaker _ (λ is. sets_to _ _ _ _ _ is c.bytes_of.ensures) c.add.ensures.ok)

-- the row goes to new bins
pub returns-in_ok-add-in-None-clause-ok : goal.returns-in_ok-add-in-None-clause-ok
returns-in_ok-add-in-None-clause-ok g c =
    let opened = c.in_ok-opened-in-None.ensures.ok in
    rw (c.in-None.is, ← opened) (sets_to _ _ _ _ _ c.in_ok-add-in-None.ensures.ok c.bytes_of-in-None.ensures)
