-- What is gathered along the chain of a session, step by step and in order.
use Rattle.std.specs.Prelude.{ℕ, List, [], ◌∷◌, ◌++◌, Option, None}
use Rattle.std.proofs.Common.{inl, inr}
use Rattle.client_protocol.specs.declared.limits.Version.{Version}
use Rattle.client_protocol.specs.Requests.{Request}
use Rattle.client_protocol.specs.Bodies.{hello_after}
use Rattle.client_protocol.specs.declared.response.Response.{Response}
use Rattle.client_protocol.specs.Frames.{Held}
use Rattle.client_protocol.specs.Frames.Held.{open_at, failed}
use Rattle.sessions.specs.Answering.{hello_behind, AnswersInOrder, BreaksOff}
use Rattle.sessions.specs.Sessions.{AllAnswered, RunsOut, Owes, Ended}
use Rattle.sessions.specs.declared.session.SessionEnd.{SessionEnd}
use Rattle.sessions.specs.declared.session.SessionEnd.TheVariants.{Closed, Cut, Refused, ReadFailed, WriteFailed, NoMemory}

-- `of_step` tells what one step gives
module _ {S X : Type 0} (Answers : Option Version → S → Request → List Response → S → Type 0)
    (of_step : (hello : Option Version) (old : S) (request : Request) (responses : List Response) (new : S) → Answers hello old request responses new → List X) where
  abbrev pub in_order : (hello : Option Version) (old new : S) (responses : List Response) (requests : List Request) → AnswersInOrder Answers hello old requests responses new → List X
  in_order hello old new responses [] chain = []
  in_order hello old new responses (request ∷ requests) (first, later, next, one, more, is) =
      of_step hello old request first next one ++ in_order (hello_after hello request) next new later requests more

  abbrev pub of_all : (old new : S) (read written : List ℕ) (held : Held) → AllAnswered Answers old read held written new → List X
  of_all old new read written held (requests, frames, (responses, chain, is)) = in_order None old new responses requests chain

  -- the last request was made too, and its answer is not wholly written
  abbrev pub of_broken : (old new : S) (written : List ℕ) (requests : List Request) → BreaksOff Answers None old requests written new → List X
  of_broken old new written requests b = in_order None old b.mid b.answered.0 b.done b.answered.1 ++ of_step (hello_behind None b.done) b.mid b.request b.responses new b.made

  abbrev pub of_rest : (old new : S) (read written : List ℕ) (last : ℕ) → RunsOut Answers old read last written new → List X
  of_rest old new read written last (taken, lacks, hello, rest, all) = of_all old new taken written (open_at hello rest) all

  abbrev pub of_owed : (old new : S) (read written : List ℕ) (last number : ℕ) → Owes Answers old read last number written new → List X
  of_owed old new read written last number (inl (fault, is, all)) = of_all old new read written (failed fault) all
  of_owed old new read written last number (inr (is, out)) = of_rest old new read written last out

  -- in a session that ended so
  abbrev pub in_session : (old new : S) (read written : List ℕ) (last : ℕ) (end : SessionEnd) → Ended Answers old end read last written new → List X
  in_session old new read written last Closed (hello, all) = of_all old new read written (open_at hello []) all
  in_session old new read written last Cut (hello, rest, some, all) = of_all old new read written (open_at hello rest) all
  in_session old new read written last (Refused fault) (before, all, is) = of_all old new read before (failed fault) all
  in_session old new read written last ReadFailed (hello, rest, all) = of_all old new read written (open_at hello rest) all
  in_session old new read written last WriteFailed (inl (requests, held, frames, breaks)) = of_broken old new written requests breaks
  in_session old new read written last WriteFailed (inr (inl (number, before, part, owed, front, is))) = of_owed old new read before last number owed
  in_session old new read written last WriteFailed (inr (inr (hello, rest, all))) = of_all old new read written (open_at hello rest) all
  in_session old new read written last NoMemory (before, out, is) = of_rest old new read before last out
