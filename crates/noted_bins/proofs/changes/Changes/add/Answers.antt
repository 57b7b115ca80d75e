use Rattle.noted_bins.proofs.changes.Changes.add.Goals as goal

-- the row is what is there of the key
pub returns-clause-ok : goal.returns-clause-ok
returns-clause-ok g c = rw (rw c.new.ensures.key at c.find_row-mark.ensures.saved) at c.push.ensures.ok
