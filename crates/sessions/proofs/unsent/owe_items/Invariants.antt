-- the items before this position are owed
use Rattle.std.proofs.Common.{◌≡◌, ◌++◌}
use Rattle.sessions.specs.Unsent.{item_frames_from}
use Rattle.sessions.proofs.unsent.owe_items.Given as goal

abbrev pub invariant-loop-position : goal.invariant-loop-position
invariant-loop-position l =
    (l.next ≡ l.position) × (l.owed ++ item_frames_from l.items l.next ≡ l.fn.owed ++ item_frames_from l.items l.fn.next)
