-- What one turn adds to what a client was told. No public contract cites this.
use Rattle.std.specs.Prelude.{◌≡◌, ◌⊎◌, ℕ, List, [], ◌∷◌, ◌++◌, Option, Some}
use Rattle.client_protocol.specs.Faults.{protocol_fault_number}
use Rattle.program_registry.specs.declared.registry.Registry.{Registry}
use Rattle.devices.specs.Channels.{ChannelState}
use Rattle.redis_service.specs.Lines.{no_memory_line}
use Rattle.redis_service.specs.declared.desk.TalkEnd.{TalkEnd}
use Rattle.redis_service.specs.declared.desk.TalkEnd.TheVariants as talk_end
use Rattle.sessions.specs.Answering.{IsFront}
use Rattle.sessions.specs.Conversations.{Exchange}
use Rattle.sessions.specs.OwedAnswers.{OwedState, IsSent}
use Rattle.sessions.specs.Sessions.{refusal}
use Rattle.sessions.specs.declared.session.SessionEnd.{SessionEnd}
use Rattle.sessions.specs.declared.session.SessionEnd.TheVariants as session
use Rattle.sessions.specs.declared.session.conversation.ConversationEnd.{ConversationEnd}
use Rattle.sessions.specs.declared.session.conversation.ConversationEnd.TheVariants.{Refused, NoMemory, WriteFailed}
use Rattle.crews.specs.declared.clients.Parting.{Parting}
use Rattle.crews.specs.declared.clients.Parting.TheVariants.{Ended, Over}
use Rattle.crews.specs.declared.talk.Talk.{Talk}
use Rattle.crews.specs.Stations.{KeptTokens, Station}
use Rattle.crews.specs.Partings.{SaysSo}
use Rattle.crews.specs.Lives.{Arrival, Known, known, KeepsTokens, KeepsNumbers, Stands}

-- these bytes are owed, and then the client leaves so; or a front of them, and a write failed
abbrev pub TellsLast : List ℕ → SessionEnd → Option Parting → List ℕ → List ℕ → Type 0
TellsLast last end leaving old new =
    ((leaving ≡ Some (Ended end)) × (new ≡ old ++ last))
    ⊎ ((leaving ≡ Some (Ended session.WriteFailed)) × ((part : List ℕ) × IsFront part last × (new ≡ old ++ part)))

-- how a client leaves at the end of a conversation, and what it is owed then
abbrev pub LeavesAt : ConversationEnd → Option Parting → List ℕ → List ℕ → Type 0
LeavesAt (Refused fault) leaving old new = TellsLast (refusal (protocol_fault_number fault)) (session.Refused fault) leaving old new
LeavesAt NoMemory leaving old new = TellsLast (refusal 9) session.NoMemory leaving old new
LeavesAt WriteFailed leaving old new = (leaving ≡ Some (Ended session.WriteFailed)) × (new ≡ old)

-- and at the end of a talk in commands
abbrev pub LeavesTalk : TalkEnd → Option Parting → List ℕ → List ℕ → Type 0
LeavesTalk talk_end.Over leaving old new = (leaving ≡ Some Over) × (new ≡ old)
LeavesTalk talk_end.NoMemory leaving old new = TellsLast no_memory_line session.NoMemory leaving old new
LeavesTalk talk_end.WriteFailed leaving old new = (leaving ≡ Some (Ended session.WriteFailed)) × (new ≡ old)

-- exchanges lead from what the passes knew to what they know
abbrev pub Leads : Known → List (Exchange Station) → Known → Type 0
Leads old [] new = new ≡ old
Leads old (exchange ∷ exchanges) new = (known exchange.old ≡ old) × Leads (known exchange.new) exchanges new

-- further exchanges moved the passes, and the client was told more
pub record SaysMore (password : Option (List ℕ)) (old new : Known) (exchanges : List (Exchange Station)) (tokens after : KeptTokens) (talk : Talk) (leaving : Option Parting) (read said owed more_owed : List ℕ) : Type 0 where
  pub more : List (Exchange Station)
  pub moves : Leads old more new
  pub numbers : KeepsNumbers old new
  pub keeps : KeepsTokens tokens more after
  pub of : after.registry ≡ tokens.registry
  pub grown : List ℕ
  pub owed_is : more_owed ≡ owed ++ grown
  pub says : SaysSo password leaving talk (exchanges ++ more) read (said ++ grown)

-- so it was, and its connection took a front of all that it was owed meanwhile
abbrev pub SaysAndSends : ChannelState → ChannelState → Option (List ℕ) → Known → Known → List (Exchange Station) → KeptTokens → KeptTokens → Talk → Option Parting → List ℕ → List ℕ → OwedState → OwedState → Type 0
SaysAndSends now next password old new exchanges tokens after talk leaving read said owed left =
    (whole : OwedState) × IsSent now next whole left × SaysMore password old new exchanges tokens after talk leaving read said owed.rest whole.rest

module _ {C : Type 0} (state : C → ChannelState) (registry : Registry) (password : Option (List ℕ)) where
  -- further exchanges moved the passes, and the client stands so after them
  pub record TurnsTo (old new : Known) (came : Arrival C) (now : C) (exchanges : List (Exchange Station)) (tokens : KeptTokens) (talk : Talk) (owed : OwedState) (leaving : Option Parting) : Type 0 where
    pub more : List (Exchange Station)
    pub moves : Leads old more new
    pub numbers : KeepsNumbers old new
    pub stands : Stands state registry password came now (exchanges ++ more) tokens talk owed leaving
