use Rattle.timed_bins.proofs.RoomLemmas.{settled}
use Rattle.timed_bins.proofs.StateLemmas.{of_called, calls_with}
use Rattle.timed_bins.proofs.timed.call_with.Goals as goal

-- the call was made, and its key's deadline changed
pub returns-in-Ok-clause-of_entries : goal.returns-in-Ok-clause-of_entries
returns-in-Ok-clause-of_entries g c =
    of_called _ _ c.requires.of_entries _ _ _ _ _ _ c.in-Ok.ensures.ok (settled _ _ _ _ _ _ _ _ _ c.in_ok-room.ensures.ok c.settle.ensures.settles c.settle.ensures.sets)

pub returns-in-Ok-clause-ok : goal.returns-in-Ok-clause-ok
returns-in-Ok-clause-ok g c =
    rw c.settle.ensures.settles.kind
    (calls_with _ _ c.requires.of_entries _ _ _ _ _ _ c.in-Ok.ensures.ok (settled _ _ _ _ _ _ _ _ _ c.in_ok-room.ensures.ok c.settle.ensures.settles c.settle.ensures.sets))
