use Rattle.noted_bins.proofs.CallLemmas.{expired_due}
use Rattle.noted_bins.proofs.noted.Noted.expire.Goals as goal

-- the key that was taken is noted
pub returns-in-Took-clause-notes : goal.returns-in-Took-clause-notes
returns-in-Took-clause-notes g c = expired_due _ _ _ _ _ _ _ _ _ _ c.in-Took.ensures.expires (rw c.new.ensures.key at c.note.ensures) c.in-Took.ensures.ranks
