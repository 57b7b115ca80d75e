use Rattle.std.proofs.Common.{refl}
use Rattle.timed_bins.proofs.RoomLemmas.{none_needed}
use Rattle.timed_bins.proofs.timed.prepare.Goals as goal

-- there are no deadlines, and the call sets none
pub returns-then-not-asks_room-clause-ok : goal.returns-then-not-asks_room-clause-ok
returns-then-not-asks_room-clause-ok g c = none_needed _ _ _ (c.if-is_empty.ensures.empty refl) (c.if-not-asks_room.ensures _)
