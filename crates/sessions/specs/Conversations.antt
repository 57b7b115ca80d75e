-- How a conversation takes pieces: its state between two reads, and how each piece changes it.
use Rattle.std.specs.Prelude.{◌≡◌, ℕ, List, [], ◌∷◌, ◌++◌, Option, None, Some, Result, Ok, Err}
use Rattle.client_protocol.specs.declared.limits.Version.{Version}
use Rattle.client_protocol.specs.Requests.{Request}
use Rattle.client_protocol.specs.declared.response.Response.{Response}
use Rattle.client_protocol.specs.Frames.{Held, Feeds, held_hello, held_fault}
use Rattle.devices.specs.Devices.{SinkState, TakesBytes, TakesThenFails}
use Rattle.sessions.specs.declared.session.conversation.ConversationEnd.{ConversationEnd}
use Rattle.sessions.specs.declared.session.conversation.ConversationEnd.TheVariants.{Refused, NoMemory, WriteFailed}
use Rattle.sessions.specs.declared.session.service.Answer.{Answer}
use Rattle.sessions.specs.Answering.{responses_of, hello_behind, Answered, BreaksOff}
use denote.Ref.{Bor, MutBor}
use denote.Param.Members.{Shared}

-- an exchange of a conversation: the state before it, the piece that was taken, the bytes written, and the state after
-- it
pub record Exchange (S : Type 0) : Type 0 where
  pub old : S
  pub piece : List ℕ
  pub written : List ℕ
  pub new : S

module _ {F S : Type 0}
    (g : Shared F (MutBor S × (Option Version × (Bor Request × (MutBor (List ℕ) × Unit {0})))) (Answer × (MutBor S × (MutBor (List ℕ) × Unit {0}))))
    (f : F) where
  -- the function may be called in each state, and answers by this relation; a value that is found is left in the room
  -- for it
  pub record AnswersBy (Answers : Option Version → S → Request → List Response → S → Type 0) : Type 0 where
    pub may : (state : MutBor S) (hello : Option Version) (request : Bor Request) (value : MutBor (List ℕ)) → g.pre f (state, (hello, (request, (value, tt))))
    pub does : (state after : MutBor S) (hello : Option Version) (request : Bor Request) (value left : MutBor (List ℕ)) (answer : Answer)
        → g.post f (state, (hello, (request, (value, tt)))) (answer, (after, (left, tt)))
        → Answers hello state.now request.now (responses_of answer left.now) after.now

module _ {S : Type 0} (Answers : Option Version → S → Request → List Response → S → Type 0) where
  -- a conversation in the first state took the piece, answered all its requests by these bytes, and is now in the last state
  abbrev pub AnswersPiece : Held → S → List ℕ → List ℕ → Held → S → Type 0
  AnswersPiece held old piece written next new =
      (requests : List Request) × Feeds held piece requests next × Answered Answers (held_hello held) old requests written new

  -- it took the piece, but the answers to its requests break off
  abbrev pub BreaksPiece : Held → S → List ℕ → List ℕ → Held → S → Type 0
  BreaksPiece held old piece written next new =
      (requests : List Request) × Feeds held piece requests next × BreaksOff Answers (held_hello held) old requests written new

  -- it took the piece, and the sink took the answers
  abbrev pub WritesPiece : Held → S → List ℕ → SinkState → SinkState → Held → S → Type 0
  WritesPiece held old piece sink after next new =
      (written : List ℕ) × TakesBytes sink after written × AnswersPiece held old piece written next new

  -- what became of the piece: all its requests are answered; or those before a fault; or memory was refused, and nothing was done; or
  -- one request was made whose answer is not wholly written, and none after it
  abbrev pub TakesPiece : {U : Type 0} → Result U ConversationEnd → Held → S → List ℕ → SinkState → SinkState → Held → S → Type 0
  TakesPiece (Ok u) held old piece sink after next new = (held_fault next ≡ None) × WritesPiece held old piece sink after next new
  TakesPiece (Err (Refused fault)) held old piece sink after next new = (held_fault next ≡ Some fault) × WritesPiece held old piece sink after next new
  TakesPiece (Err NoMemory) held old piece sink after next new = (next ≡ held) × (new ≡ old) × (after ≡ sink)
  TakesPiece (Err WriteFailed) held old piece sink after next new =
      (written : List ℕ) × TakesThenFails sink after written × BreaksPiece held old piece written next new

  -- it went through these exchanges, one after the other. Between two of them the state may change
  abbrev pub Converses : Held → List (Exchange S) → Held → Type 0
  Converses held [] next = next ≡ held
  Converses held (exchange ∷ exchanges) next =
      (mid : Held) × AnswersPiece held exchange.old exchange.piece exchange.written mid exchange.new × Converses mid exchanges next

  -- the requests, which came after this Hello, were answered in these exchanges, in order
  abbrev pub AnsweredInEach : Option Version → List (Exchange S) → List Request → Type 0
  AnsweredInEach hello [] requests = requests ≡ []
  AnsweredInEach hello (exchange ∷ exchanges) requests =
      (first : List Request) × (later : List Request) × (requests ≡ first ++ later)
      × Answered Answers hello exchange.old first exchange.written exchange.new × AnsweredInEach (hello_behind hello first) exchanges later
