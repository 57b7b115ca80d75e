-- What holds of each step and what it gives, holds of the whole chain and what is gathered along it.
use Rattle.std.proofs.Common.{ℕ, List, [], ◌∷◌, ◌++◌, Option, None, inl, inr, sym, subst}
use Rattle.client_protocol.specs.declared.limits.Version.{Version}
use Rattle.client_protocol.specs.Requests.{Request}
use Rattle.client_protocol.specs.Bodies.{hello_after}
use Rattle.client_protocol.specs.declared.response.Response.{Response}
use Rattle.client_protocol.specs.Frames.{Held}
use Rattle.client_protocol.specs.Frames.Held.{open_at, failed}
use Rattle.sessions.specs.Answering.{hello_behind, AnswersInOrder, BreaksOff}
use Rattle.sessions.specs.Sessions.{AllAnswered, RunsOut, Owes, Ended}
use Rattle.sessions.specs.declared.session.SessionEnd.{SessionEnd}
use Rattle.sessions.specs.declared.session.SessionEnd.TheVariants.{Closed, Cut, Refused, ReadFailed, WriteFailed, NoMemory}
use Rattle.crews.specs.Collected.{in_order, of_all, of_broken, of_rest, of_owed, in_session}

module _ {S X : Type 0} (Answers : Option Version → S → Request → List Response → S → Type 0)
    (of_step : (hello : Option Version) (old : S) (request : Request) (responses : List Response) (new : S) → Answers hello old request responses new → List X)
    (Leads : S → List X → S → Type 0)
    (stays : (s : S) → Leads s [] s) (goes_on : (a b c : S) (xs ys : List X) → Leads a xs b → Leads b ys c → Leads a (xs ++ ys) c)
    (step : (hello : Option Version) (old : S) (request : Request) (responses : List Response) (new : S) (one : Answers hello old request responses new)
    → Leads old (of_step hello old request responses new one) new) where
  pub order : (hello : Option Version) (old new : S) (responses : List Response) (requests : List Request) (chain : AnswersInOrder Answers hello old requests responses new)
      → Leads old (in_order Answers of_step hello old new responses requests chain) new
  order hello old new responses [] (none, is) = subst (λ (s : S). Leads old [] s) (sym is) (stays old)
  order hello old new responses (request ∷ requests) (first, later, next, one, more, is) =
      goes_on old next new (of_step hello old request first next one) (in_order Answers of_step (hello_after hello request) next new later requests more)
      (step hello old request first next one) (order (hello_after hello request) next new later requests more)

  all : (old new : S) (read written : List ℕ) (held : Held) (a : AllAnswered Answers old read held written new) → Leads old (of_all Answers of_step old new read written held a) new
  all old new read written held (requests, frames, (responses, chain, is)) = order None old new responses requests chain

  broken : (old new : S) (written : List ℕ) (requests : List Request) (b : BreaksOff Answers None old requests written new) → Leads old (of_broken Answers of_step old new written requests b) new
  broken old new written requests b =
      let behind = hello_behind None b.done in
      goes_on old b.mid new (in_order Answers of_step None old b.mid b.answered.0 b.done b.answered.1) (of_step behind b.mid b.request b.responses new b.made)
      (order None old b.mid b.answered.0 b.done b.answered.1) (step behind b.mid b.request b.responses new b.made)

  rest : (old new : S) (read written : List ℕ) (last : ℕ) (r : RunsOut Answers old read last written new) → Leads old (of_rest Answers of_step old new read written last r) new
  rest old new read written last (taken, lacks, hello, left, a) = all old new taken written (open_at hello left) a

  owed : (old new : S) (read written : List ℕ) (last number : ℕ) (o : Owes Answers old read last number written new) → Leads old (of_owed Answers of_step old new read written last number o) new
  owed old new read written last number (inl (fault, is, a)) = all old new read written (failed fault) a
  owed old new read written last number (inr (is, out)) = rest old new read written last out

  pub session_leads : (old new : S) (read written : List ℕ) (last : ℕ) (end : SessionEnd) (e : Ended Answers old end read last written new)
      → Leads old (in_session Answers of_step old new read written last end e) new
  session_leads old new read written last Closed (hello, a) = all old new read written (open_at hello []) a
  session_leads old new read written last Cut (hello, left, some, a) = all old new read written (open_at hello left) a
  session_leads old new read written last (Refused fault) (before, a, is) = all old new read before (failed fault) a
  session_leads old new read written last ReadFailed (hello, left, a) = all old new read written (open_at hello left) a
  session_leads old new read written last WriteFailed (inl (requests, held, frames, breaks)) = broken old new written requests breaks
  session_leads old new read written last WriteFailed (inr (inl (number, before, part, o, front, is))) = owed old new read before last number o
  session_leads old new read written last WriteFailed (inr (inr (hello, left, a))) = all old new read written (open_at hello left) a
  session_leads old new read written last NoMemory (before, out, is) = rest old new read before last out
