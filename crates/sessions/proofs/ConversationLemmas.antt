-- Joining the pieces that a conversation takes.
use Rattle.std.proofs.Common.{◌≡◌, ℕ, List, [], ◌∷◌, ◌++◌, flat_map, Option, None, refl, sym, subst, ◌∙◌, inl, append_assoc, append-nil, arith}
use Rattle.client_protocol.specs.declared.limits.Version.{Version}
use Rattle.client_protocol.specs.Requests.{Request}
use Rattle.client_protocol.specs.declared.response.Response.{Response}
use Rattle.client_protocol.specs.Bodies.{hello_after}
use Rattle.client_protocol.specs.Frames.{Held, Follow, Frames, Feeds, held_hello}
use Rattle.client_protocol.specs.Frames.Held.{open_at, failed}
use Rattle.client_protocol.proofs.FrameLaws.{frames_go_on, feeds_then}
use Rattle.sessions.specs.Answering.{hello_behind, Answered, BreaksOff}
use Rattle.sessions.specs.Conversations.{AnswersPiece, BreaksPiece, Exchange, Converses, AnsweredInEach}
use Rattle.sessions.proofs.AnsweringLemmas.{hello_behind_both, answered_then, breaks_then}

-- the Hello that was taken, and the one after the requests
follow_behind : (hello after : Option Version) (rs : List Request) → Follow hello rs after → hello_behind hello rs ≡ after
follow_behind hello after [] is = sym is
follow_behind hello after (r ∷ rs) (request, more) = follow_behind (hello_after hello r) after rs more

-- the state after a piece has the Hello after its requests
hello_then : (held : Held) (after : Option Version) (rest piece : List ℕ) (rs : List Request) → Feeds held piece rs (open_at after rest) → hello_behind (held_hello held) rs ≡ after
hello_then (open_at hello part) after rest piece rs feeds = follow_behind hello feeds.after rs feeds.follow ∙ sym feeds.ends.0
hello_then (failed fault) after rest piece rs (none, same) = absurd cc

-- nothing was read
pub frames_begin : Frames None [] [] (open_at None [])
frames_begin = record { after = None; rest = []; follow = refl; spelled = refl; ends = (refl, refl, inl (omega arith)) }

no_request : (done : List Request) (r : Request) (left : List Request) → [] ≡ done ++ r ∷ left → ⊥
no_request [] r left e = absurd cc
no_request (d ∷ done) r left e = absurd cc

module _ {S : Type 0} (Answers : Option Version → S → Request → List Response → S → Type 0) where
  -- if there is no request, it doesn't matter which Hello was taken
  none_answered : (hello other : Option Version) (old new : S) (rs : List Request) (w : List ℕ) → rs ≡ [] → Answered Answers hello old rs w new → Answered Answers other old rs w new
  none_answered hello other old new [] w none answered = answered
  none_answered hello other old new (r ∷ rs) w none answered = absurd cc

  -- the requests of the next piece came after those of this one
  answered_next : (held mid next : Held) (piece later : List ℕ) (rs ss : List Request) (old new : S) (w : List ℕ) → Feeds held piece rs mid → Feeds mid later ss next
      → Answered Answers (held_hello mid) old ss w new → Answered Answers (hello_behind (held_hello held) rs) old ss w new
  answered_next held (open_at after rest) next piece later rs ss old new w first second answered =
      subst (λ (h : Option Version). Answered Answers h old ss w new) (sym (hello_then held after rest piece rs first)) answered
  answered_next held (failed fault) next piece later rs ss old new w first second answered =
      none_answered None (hello_behind (held_hello held) rs) old new ss w second.0 answered

  breaks_next : (held mid next : Held) (piece later : List ℕ) (rs ss : List Request) (old new : S) (w : List ℕ) → Feeds held piece rs mid → Feeds mid later ss next
      → BreaksOff Answers (held_hello mid) old ss w new → BreaksOff Answers (hello_behind (held_hello held) rs) old ss w new
  breaks_next held (open_at after rest) next piece later rs ss old new w first second breaks =
      subst (λ (h : Option Version). BreaksOff Answers h old ss w new) (sym (hello_then held after rest piece rs first)) breaks
  breaks_next held (failed fault) next piece later rs ss old new w first second breaks =
      absurd (no_request breaks.done breaks.request breaks.left (sym second.0 ∙ breaks.order))

  -- a piece was taken, and then another
  pub pieces_whole : (held mid next : Held) (old between new : S) (first later written more : List ℕ) → AnswersPiece Answers held old first written mid between
      → AnswersPiece Answers mid between later more next new → AnswersPiece Answers held old (first ++ later) (written ++ more) next new
  pieces_whole held mid next old between new first later written more (rs, feeds, answered) (ss, feeds2, answered2) = (
    rs ++ ss,
    feeds_then held mid next first later rs ss feeds feeds2,
    answered_then Answers (held_hello held) old between new rs ss written more answered
        (answered_next held mid next first later rs ss between new more feeds feeds2 answered2),
  )

  pub pieces_broken : (held mid next : Held) (old between new : S) (first later written more : List ℕ) → AnswersPiece Answers held old first written mid between
      → BreaksPiece Answers mid between later more next new → BreaksPiece Answers held old (first ++ later) (written ++ more) next new
  pieces_broken held mid next old between new first later written more (rs, feeds, answered) (ss, feeds2, breaks) = (
    rs ++ ss,
    feeds_then held mid next first later rs ss feeds feeds2,
    breaks_then Answers (held_hello held) old between new rs ss written more answered
        (breaks_next held mid next first later rs ss between new more feeds feeds2 breaks),
  )

  -- after these requests were read, the exchanges go on
  exchanges_after : (read : List ℕ) (rs : List Request) (mid next : Held) (exchanges : List (Exchange S)) → Frames None read rs mid → Converses Answers mid exchanges next
      → (ss : List Request) × Frames None (read ++ flat_map (λ exchange. exchange.piece) exchanges) (rs ++ ss) next × AnsweredInEach Answers (hello_behind None rs) exchanges ss
  exchanges_after read rs mid next [] frames same = (
    [],
    subst (λ (t : List ℕ). Frames None t (rs ++ []) next) (sym (append-nil read))
        (subst (λ (ts : List Request). Frames None read ts next) (sym (append-nil rs)) (subst (λ (h : Held). Frames None read rs h) (sym same) frames)),
    refl,
  )
  exchanges_after read rs mid next (exchange ∷ exchanges) frames (between, (first, feeds, answered), more) =
      let pieces = flat_map (λ (e : Exchange S). e.piece) exchanges in
      let (later, whole, each) = exchanges_after (read ++ exchange.piece) (rs ++ first) between next exchanges (frames_go_on None read exchange.piece rs first mid between frames feeds) more in (
        first ++ later,
        subst (λ (t : List ℕ). Frames None t (rs ++ (first ++ later)) next) (append_assoc read exchange.piece pieces)
            (subst (λ (ts : List Request). Frames None ((read ++ exchange.piece) ++ pieces) ts next) (append_assoc rs first later) whole),
        (
          first,
          later,
          refl,
          answered_next (open_at None []) mid between read exchange.piece rs first exchange.old exchange.new exchange.written frames feeds answered,
          subst (λ (h : Option Version). AnsweredInEach Answers h exchanges later) (hello_behind_both None rs first) each,
        ),
      )

  pub exchanges_whole : (exchanges : List (Exchange S)) (next : Held) → Converses Answers (open_at None []) exchanges next
      → (requests : List Request) × Frames None (flat_map (λ exchange. exchange.piece) exchanges) requests next × AnsweredInEach Answers None exchanges requests
  exchanges_whole exchanges next conversed = exchanges_after [] [] (open_at None []) next exchanges frames_begin conversed
