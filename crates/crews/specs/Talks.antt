-- How a client speaks, in frames or in commands, and how its exchanges go on in either.
use Rattle.std.specs.Prelude.{◌≡◌, ◌≢◌, ℕ, Bool, true, false, IsTrue, List, [], ◌∷◌, Option, None}
use Rattle.client_protocol.specs.declared.limits.Version.{Version}
use Rattle.client_protocol.specs.declared.fault.ProtocolFault.{ProtocolFault}
use Rattle.client_protocol.specs.Frames.Held.{open_at, failed}
use Rattle.redis_service.specs.Talks as redis
use Rattle.redis_service.specs.Talks.{TalkState, begun}
use Rattle.sessions.specs.Conversations as sessions
use Rattle.sessions.specs.Conversations.{Exchange, Converses}
use Rattle.crews.specs.declared.clients.Protocol.{Protocol}
use Rattle.crews.specs.declared.clients.Protocol.TheVariants as protocols
use Rattle.crews.specs.declared.talk.Talk.{Talk}
use Rattle.crews.specs.declared.talk.Talk.TheVariants.{Frames, Commands}
use Rattle.crews.specs.Stations.{Station}
use Rattle.crews.specs.Steps.{CrewServes}

-- the protocol of a talk
abbrev pub protocol_of : Talk → Protocol
protocol_of (Frames held) = protocols.Frames
protocol_of (Commands talk) = protocols.Commands

-- a talk in which nothing has come; the number is the one that a client of commands may ask for, and the password the one that it has
-- to show, if there is one
abbrev pub begins_so : ℕ → Option (List ℕ) → Protocol → Talk
begins_so number password protocols.Frames = Frames (open_at None [])
begins_so number password protocols.Commands = Commands (begun number password)

-- more may be read: the frames have no fault, or the commands have not ended the talk
abbrev pub IsOpen : Talk → Type 0
IsOpen (Frames held) = (hello : Option Version) × (rest : List ℕ) × (held ≡ open_at hello rest)
IsOpen (Commands talk) = talk.is_over ≡ false

-- and it is between two frames, or two commands
abbrev pub IsBetween : Talk → Type 0
IsBetween (Frames held) = (hello : Option Version) × (held ≡ open_at hello [])
IsBetween (Commands talk) = (talk.is_over ≡ false) × (talk.rest ≡ [])

-- or inside one
abbrev pub IsInside : Talk → Type 0
IsInside (Frames held) = (hello : Option Version) × (rest : List ℕ) × (rest ≢ []) × (held ≡ open_at hello rest)
IsInside (Commands talk) = (talk.is_over ≡ false) × (talk.rest ≢ [])

-- the frames have this fault
abbrev pub HasFault : ProtocolFault → Talk → Type 0
HasFault fault (Frames held) = held ≡ failed fault
HasFault fault (Commands talk) = ⊥

-- the commands have ended the talk: the client asked for it, or they have a fault, whose text is the last answer
abbrev pub IsOver : Talk → Type 0
IsOver (Frames held) = ⊥
IsOver (Commands talk) = talk.is_over ≡ true

-- the commands of the exchange's piece are answered at some time, on what the crew's pass knows, which stays one of its map; its team and
-- the client's tokens stay as they were. Only a strict server refuses changes then
pub record AnswersCommands (talk : TalkState) (exchange : Exchange Station) (next : TalkState) : Type 0 where
  pub goes_on : talk.is_over ≡ false
  pub map : exchange.new.pass.map ≡ exchange.old.pass.map
  pub team : exchange.new.team ≡ exchange.old.team
  pub tokens : exchange.new.tokens ≡ exchange.old.tokens
  pub strict : exchange.new.is_strict ≡ exchange.old.is_strict
  pub time : ℕ
  pub refuses : Bool
  pub may : IsTrue refuses → IsTrue exchange.old.is_strict
  pub answers : redis.AnswersPiece time refuses talk exchange.old.pass exchange.piece exchange.written next exchange.new.pass

-- so are some, and the answer to one breaks off
pub record BreaksCommands (talk : TalkState) (exchange : Exchange Station) (next : TalkState) : Type 0 where
  pub goes_on : talk.is_over ≡ false
  pub map : exchange.new.pass.map ≡ exchange.old.pass.map
  pub team : exchange.new.team ≡ exchange.old.team
  pub tokens : exchange.new.tokens ≡ exchange.old.tokens
  pub strict : exchange.new.is_strict ≡ exchange.old.is_strict
  pub time : ℕ
  pub refuses : Bool
  pub may : IsTrue refuses → IsTrue exchange.old.is_strict
  pub breaks : redis.BreaksPiece time refuses talk exchange.old.pass exchange.piece exchange.written next exchange.new.pass

-- the exchanges answered commands, one after the other
abbrev pub AnswersEach : TalkState → List (Exchange Station) → TalkState → Type 0
AnswersEach talk [] next = next ≡ talk
AnswersEach talk (exchange ∷ exchanges) next = (mid : TalkState) × AnswersCommands talk exchange mid × AnswersEach mid exchanges next

-- from their beginning the client's exchanges went so, one after the other, and the talk is this now; one in commands has to show this
-- password, if there is one
abbrev pub Talked : Option (List ℕ) → List (Exchange Station) → Talk → Type 0
Talked password exchanges (Frames held) = Converses CrewServes (open_at None []) exchanges held
Talked password exchanges (Commands talk) = (number : ℕ) × AnswersEach (begun number password) exchanges talk

-- the answers to the piece of this exchange break off
abbrev pub Breaks : Talk → Exchange Station → Talk → Type 0
Breaks (Frames held) exchange (Frames next) = sessions.BreaksPiece CrewServes held exchange.old exchange.piece exchange.written next exchange.new
Breaks (Commands talk) exchange (Commands next) = BreaksCommands talk exchange next
Breaks talk exchange next = ⊥
