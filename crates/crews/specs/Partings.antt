-- What a client of many was told, which has to show this password if it speaks commands and there is one: its exchanges, the bytes that
-- were read of it, and those that were written to it or are still owed.
use Rattle.std.specs.Prelude.{◌≡◌, ◌⊎◌, ℕ, ◌≤◌, List, [], ◌∷◌, ◌++◌, length, flat_map, Option, Some, None}
use Rattle.client_protocol.specs.declared.fault.ProtocolFault.{ProtocolFault}
use Rattle.client_protocol.specs.Faults.{protocol_fault_number}
use Rattle.redis_service.specs.Lines.{no_memory_line, no_room_line}
use Rattle.sessions.specs.Answering.{IsFront}
use Rattle.sessions.specs.Conversations.{Exchange}
use Rattle.sessions.specs.Sessions.{refusal}
use Rattle.sessions.specs.declared.session.SessionEnd.{SessionEnd}
use Rattle.sessions.specs.declared.session.SessionEnd.TheVariants.{Closed, Cut, Refused, ReadFailed, WriteFailed, NoMemory}
use Rattle.crews.specs.declared.clients.Parting.{Parting}
use Rattle.crews.specs.declared.clients.Parting.TheVariants as parting
use Rattle.crews.specs.declared.clients.Protocol.{Protocol}
use Rattle.crews.specs.declared.clients.Protocol.TheVariants as protocols
use Rattle.crews.specs.declared.talk.Talk.{Talk}
use Rattle.crews.specs.Stations.{Station}
use Rattle.crews.specs.Talks.{protocol_of, IsOpen, IsBetween, IsInside, HasFault, IsOver, Talked, Breaks}

-- the pieces that were taken, one after the other
abbrev pub pieces_of : List (Exchange Station) → List ℕ
pieces_of exchanges = flat_map (λ exchange. exchange.piece) exchanges

-- the answers to them
abbrev pub answers_of : List (Exchange Station) → List ℕ
answers_of exchanges = flat_map (λ exchange. exchange.written) exchanges

-- what was read are the pieces of the exchanges, each of which was answered; what was said are the answers, and the talk is this now
pub record AllSaid (password : Option (List ℕ)) (exchanges : List (Exchange Station)) (talk : Talk) (read said : List ℕ) : Type 0 where
  pub talked : Talked password exchanges talk
  pub read_is : read ≡ pieces_of exchanges
  pub said_is : said ≡ answers_of exchanges

-- a client of this protocol was told the answers to all that was read, and its talk is so now
abbrev pub AllSaidIn : Option (List ℕ) → Protocol → (Talk → Type 0) → List (Exchange Station) → List ℕ → List ℕ → Type 0
AllSaidIn password protocol IsSo exchanges read said = (talk : Talk) × (protocol_of talk ≡ protocol) × IsSo talk × AllSaid password exchanges talk read said

-- memory was refused to the last piece that was read, and all that was read before it is answered
abbrev pub LacksPiece : Option (List ℕ) → Protocol → List (Exchange Station) → List ℕ → List ℕ → Type 0
LacksPiece password protocol exchanges read said =
    (taken : List ℕ) × (piece : List ℕ) × (read ≡ taken ++ piece) × (1 ≤ length piece) × AllSaidIn password protocol IsOpen exchanges taken said

-- what a client is told if memory is refused to a piece
abbrev pub no_memory_told : Protocol → List ℕ
no_memory_told protocols.Frames = refusal 9
no_memory_told protocols.Commands = no_memory_line

-- what a client is told that can't be kept
abbrev pub not_kept_told : Protocol → List ℕ
not_kept_told protocols.Frames = refusal 9
not_kept_told protocols.Commands = no_room_line

-- after the answers these bytes are owed, which are the last
abbrev pub OwesLast : Option (List ℕ) → Protocol → List (Exchange Station) → List ℕ → List ℕ → List ℕ → Type 0
OwesLast password protocol exchanges read last said =
    ((fault : ProtocolFault) × (last ≡ refusal (protocol_fault_number fault)) × AllSaidIn password protocol (HasFault fault) exchanges read said)
    ⊎ ((last ≡ no_memory_told protocol) × LacksPiece password protocol exchanges read said)

-- the answers to the piece of the last exchange break off
pub record SaidInPart (password : Option (List ℕ)) (protocol : Protocol) (exchanges : List (Exchange Station)) (read said : List ℕ) : Type 0 where
  pub done : List (Exchange Station)
  pub last : Exchange Station
  pub order : exchanges ≡ done ++ last ∷ []
  pub before : List ℕ
  pub answers : List ℕ
  pub talk : Talk
  pub speaks : protocol_of talk ≡ protocol
  pub whole : AllSaid password done talk before answers
  pub next : Talk
  pub breaks : Breaks talk last next
  pub read_is : read ≡ before ++ last.piece
  pub said_is : said ≡ answers ++ last.written

-- what the client is owed in all
abbrev pub OwesInAll : Option (List ℕ) → Protocol → List (Exchange Station) → List ℕ → List ℕ → Type 0
OwesInAll password protocol exchanges read whole =
    AllSaidIn password protocol (λ _. Unit {0}) exchanges read whole
    ⊎ (((last : List ℕ) × (before : List ℕ) × OwesLast password protocol exchanges read last before × (whole ≡ before ++ last))
    ⊎ SaidInPart password protocol exchanges read whole)

-- a beginning of what it is owed was said, which may be all
abbrev pub IsCutShort : Option (List ℕ) → Protocol → List (Exchange Station) → List ℕ → List ℕ → Type 0
IsCutShort password protocol exchanges read said = (whole : List ℕ) × OwesInAll password protocol exchanges read whole × IsFront said whole

-- its session ended so, when this was read and said
abbrev pub EndsSo : Option (List ℕ) → Protocol → SessionEnd → List (Exchange Station) → List ℕ → List ℕ → Type 0
EndsSo password protocol Closed exchanges read said = AllSaidIn password protocol IsBetween exchanges read said
EndsSo password protocol Cut exchanges read said = AllSaidIn password protocol IsInside exchanges read said
EndsSo password protocol (Refused fault) exchanges read said =
    (before : List ℕ) × AllSaidIn password protocol (HasFault fault) exchanges read before × (said ≡ before ++ refusal (protocol_fault_number fault))
EndsSo password protocol ReadFailed exchanges read said = AllSaidIn password protocol IsOpen exchanges read said
EndsSo password protocol WriteFailed exchanges read said = IsCutShort password protocol exchanges read said
EndsSo password protocol NoMemory exchanges read said =
    (before : List ℕ) × LacksPiece password protocol exchanges read before × (said ≡ before ++ no_memory_told protocol)

-- a client of this protocol left so
abbrev pub PartsSo : Option (List ℕ) → Protocol → Parting → List (Exchange Station) → List ℕ → List ℕ → Type 0
PartsSo password protocol (parting.Ended end) exchanges read said = EndsSo password protocol end exchanges read said
PartsSo password protocol parting.Over exchanges read said = AllSaidIn password protocol IsOver exchanges read said
PartsSo password protocol parting.LetGo exchanges read said = IsCutShort password protocol exchanges read said
PartsSo password protocol parting.NotKept exchanges read said = (exchanges ≡ []) × (read ≡ []) × IsFront said (not_kept_told protocol)

-- how it stands: it is read on; or it is leaving so, and what is still owed is part of what was said
abbrev pub SaysSo : Option (List ℕ) → Option Parting → Talk → List (Exchange Station) → List ℕ → List ℕ → Type 0
SaysSo password None talk exchanges read said = IsOpen talk × AllSaid password exchanges talk read said
SaysSo password (Some (parting.Ended end)) talk exchanges read said = EndsSo password (protocol_of talk) end exchanges read said
SaysSo password (Some parting.Over) talk exchanges read said = AllSaidIn password (protocol_of talk) IsOver exchanges read said
SaysSo password (Some parting.LetGo) talk exchanges read said = IsCutShort password (protocol_of talk) exchanges read said
SaysSo password (Some parting.NotKept) talk exchanges read said = ⊥
