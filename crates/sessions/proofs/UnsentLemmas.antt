-- The frames of a reply that are made one after the other, and what is owed meanwhile.
use Rattle.std.proofs.Common.{◌≡◌, ℕ, ◌+◌, ◌<◌, ◌≤◌, List, [], ◌++◌, length, map, sym, ap, ◌∙◌, append_assoc, append-nil, arith}
use Rattle.std.proofs.lemmas.List.{drop_more, drop_all, length-append}
use Rattle.client_protocol.specs.declared.response.Response.{Response}
use Rattle.atomic_methods.specs.declared.walk_reply.WalkReply.{WalkReply}
use Rattle.bins.specs.Entries.{entry_of}
use Rattle.bins.specs.Table.{Entry}
use Rattle.client_protocol.specs.Frames.{length_bytes}
use Rattle.client_protocol.specs.Responses.{response_body, response_frame, response_frames}
use Rattle.sessions.specs.Answering.{item_of, end_of, walk_responses}
use Rattle.sessions.proofs.AnsweringLemmas.{walk_frames}
use Rattle.sessions.specs.Unsent.{item_frames_from, frames_from}

-- the next item is at the front of those that are left
pub next_item : (items : List Entry) (i : ℕ) → i < length items → item_frames_from items i ≡ response_frame (item_of (entry_of items i)) ++ item_frames_from items (i + 1)
next_item items i lt = ap (λ (t : List Entry). response_frames (map item_of t)) (drop_more items i ([], []) lt)

-- no item is left
pub no_item : (items : List Entry) (i : ℕ) → length items ≤ i → item_frames_from items i ≡ []
no_item items i all = ap (λ (t : List Entry). response_frames (map item_of t)) (drop_all i items all)

-- its frame is owed, and the others are left
pub item_owed : (owed more : List ℕ) (items : List Entry) (i : ℕ) → i < length items → more ≡ owed ++ response_frame (item_of (entry_of items i))
    → more ++ item_frames_from items (i + 1) ≡ owed ++ item_frames_from items i
item_owed owed more items i lt is =
    ap (λ (t : List ℕ). t ++ item_frames_from items (i + 1)) is
    ∙ append_assoc owed (response_frame (item_of (entry_of items i))) (item_frames_from items (i + 1))
    ∙ ap (λ (t : List ℕ). owed ++ t) (sym (next_item items i lt))

-- no item is left, and the end is owed after them
pub all_owed : (owed more end whole : List ℕ) (items : List Entry) (first next : ℕ) → length items ≤ next
    → more ++ item_frames_from items next ≡ owed ++ item_frames_from items first → whole ≡ more ++ end → whole ≡ owed ++ (item_frames_from items first ++ end)
all_owed owed more end whole items first next all owes is =
    let none : more ≡ owed ++ item_frames_from items first = sym (append-nil more) ∙ ap (λ (t : List ℕ). more ++ t) (sym (no_item items next all)) ∙ owes in
    is ∙ ap (λ (t : List ℕ). t ++ end) none ∙ append_assoc owed (item_frames_from items first) end

-- a frame has bytes
pub frame_some : (response : Response) → 1 ≤ length (response_frame response)
frame_some response = omega (arith, length-append (length_bytes (length (response_body response))) (response_body response))

-- and so have those that are left
pub frames_some : (reply : WalkReply) (next : ℕ) → 1 ≤ length (frames_from reply next)
frames_some reply next =
    omega (arith, length-append (item_frames_from reply.items next) (response_frame (end_of reply.counts)), frame_some (end_of reply.counts))

-- the frames of a whole reply, too
pub reply_some : (reply : WalkReply) → 1 ≤ length (response_frames (walk_responses reply))
reply_some reply =
    omega (arith, ap length (walk_frames reply.items (end_of reply.counts)), length-append (response_frames (map item_of reply.items)) (response_frame (end_of reply.counts)), frame_some (end_of reply.counts))
