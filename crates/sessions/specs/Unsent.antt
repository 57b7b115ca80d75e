-- The frames of a walk's reply that are still to be made.
use Rattle.std.specs.Prelude.{ℕ, List, ◌++◌, drop, map}
use Rattle.bins.specs.Table.{Entry}
use Rattle.client_protocol.specs.Responses.{response_frame, response_frames}
use Rattle.atomic_methods.specs.declared.walk_reply.WalkReply.{WalkReply}
use Rattle.sessions.specs.Answering.{item_of, end_of}

-- those of the items from this position on
abbrev pub item_frames_from : List Entry → ℕ → List ℕ
item_frames_from items next = response_frames (map item_of (drop next items))

-- those, and that of the end
abbrev pub frames_from : WalkReply → ℕ → List ℕ
frames_from reply next = item_frames_from reply.items next ++ response_frame (end_of reply.counts)
