-- The bytes written for requests that are answered one after the other, by any service.
use Rattle.std.specs.Prelude.{◌≡◌, ℕ, ◌≤◌, Bool, false, ◌||◌, List, [], ◌∷◌, ◌++◌, length, map, nat_lt, Option, Some, if◌then◌else◌}
use Rattle.bins.specs.declared.counts.Counts.{Counts}
use Rattle.client_protocol.specs.declared.limits.Version.{Version}
use Rattle.client_protocol.specs.Requests.{Request}
use Rattle.client_protocol.specs.Bodies.{limits_after, hello_after}
use Rattle.client_protocol.specs.declared.response.Response.{Response}
use Rattle.client_protocol.specs.declared.response.Response.TheVariants.{Value, Refused, Item, End}
use Rattle.client_protocol.specs.Responses.{response_frames, response_of}
use Rattle.atomic_methods.specs.declared.walk_reply.WalkReply.{WalkReply}
use Rattle.sessions.specs.declared.session.service.Answer.{Answer}
use Rattle.sessions.specs.declared.session.service.Answer.TheVariants.{One, Found, Walk}

-- the response for an entry
abbrev pub item_of : List ℕ × List ℕ → Response
item_of entry = Item entry.0 entry.1

-- the response after the items
abbrev pub end_of : Counts → Response
end_of counts = End counts.scanned counts.given counts.unfit

-- the responses of a walk, in order
abbrev pub walk_responses : WalkReply → List Response
walk_responses reply = map item_of reply.items ++ end_of reply.counts ∷ []

-- the responses of an answer, in order; the bytes of a value that was found were left here
abbrev pub responses_of : Answer → List ℕ → List Response
responses_of (One response) bytes = response_of response ∷ []
responses_of Found bytes = Value (Some bytes) ∷ []
responses_of (Walk reply) bytes = walk_responses reply

-- a beginning of these bytes, perhaps all of them
abbrev pub IsFront : List ℕ → List ℕ → Type 0
IsFront part whole = (missing : List ℕ) × (whole ≡ part ++ missing)

-- a beginning of these bytes, and not all of them
abbrev pub IsPart : List ℕ → List ℕ → Type 0
IsPart part whole = (missing : List ℕ) × (whole ≡ part ++ missing) × (1 ≤ length missing)

-- a value that is longer than may be sent after this Hello
abbrev pub is_too_long : Option Version → Response → Bool
is_too_long hello (Value (Some bytes)) = nat_lt (limits_after hello).value (length bytes)
is_too_long hello (Item key bytes) = nat_lt (limits_after hello).value (length bytes)
is_too_long hello response = false

abbrev pub has_too_long : Option Version → List Response → Bool
has_too_long hello [] = false
has_too_long hello (response ∷ responses) = is_too_long hello response || has_too_long hello responses

-- what is sent for these responses: one refusal if a value is too long, else themselves
abbrev pub sendable : Option Version → List Response → List Response
sendable hello responses = if has_too_long hello responses then Refused 65 0 ∷ [] else responses

-- the Hello taken, after these requests
abbrev pub hello_behind : Option Version → List Request → Option Version
hello_behind hello [] = hello
hello_behind hello (request ∷ requests) = hello_behind (hello_after hello request) requests

-- for a service that answers a request after this Hello: the first state, the request, its responses, and the state after
-- it
module _ {S : Type 0} (Answers : Option Version → S → Request → List Response → S → Type 0) where
  -- the requests, answered one after the other, have these responses in all
  abbrev pub AnswersInOrder : Option Version → S → List Request → List Response → S → Type 0
  AnswersInOrder hello old [] responses new = (responses ≡ []) × (new ≡ old)
  AnswersInOrder hello old (request ∷ requests) responses new =
      (first : List Response) × (later : List Response) × (next : S)
      × Answers hello old request first next × AnswersInOrder (hello_after hello request) next requests later new
      × (responses ≡ sendable hello first ++ later)

  -- the requests were answered by these bytes
  abbrev pub Answered : Option Version → S → List Request → List ℕ → S → Type 0
  Answered hello old requests written new =
      (responses : List Response) × AnswersInOrder hello old requests responses new × (written ≡ response_frames responses)

  -- some of the requests were answered; the next was too, but its answer is not wholly written; no further one was made
  pub record BreaksOff (hello : Option Version) (old : S) (requests : List Request) (written : List ℕ) (new : S) : Type 0 where
    pub done : List Request
    pub request : Request
    pub left : List Request
    pub order : requests ≡ done ++ request ∷ left
    pub before : List ℕ
    pub mid : S
    pub answered : Answered hello old done before mid
    pub responses : List Response
    pub made : Answers (hello_behind hello done) mid request responses new
    pub part : List ℕ
    pub cut : IsPart part (response_frames (sendable (hello_behind hello done) responses))
    pub written_is : written ≡ before ++ part
