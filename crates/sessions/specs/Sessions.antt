-- How a session ends: what it has read and written, and the state then, for any service. Our profile.
use Rattle.std.specs.Prelude.{◌≡◌, ◌≢◌, ℕ, ◌≤◌, ◌⊎◌, List, [], ◌++◌, length, Option, None}
use Rattle.client_protocol.specs.declared.limits.Version.{Version}
use Rattle.client_protocol.specs.Requests.{Request}
use Rattle.client_protocol.specs.declared.fault.ProtocolFault.{ProtocolFault}
use Rattle.client_protocol.specs.declared.response.Response.TheVariants as reply
use Rattle.client_protocol.specs.declared.response.Response.{Response}
use Rattle.client_protocol.specs.Faults.{protocol_fault_number}
use Rattle.client_protocol.specs.Frames.{Held, Frames}
use Rattle.client_protocol.specs.Frames.Held.{open_at, failed}
use Rattle.client_protocol.specs.Responses.{response_frame}
use Rattle.sessions.specs.declared.session.SessionEnd.{SessionEnd}
use Rattle.sessions.specs.declared.session.SessionEnd.TheVariants.{Closed, Cut, Refused, ReadFailed, WriteFailed, NoMemory}
use Rattle.devices.specs.Devices.{next_end}
use Rattle.sessions.specs.Answering.{Answered, IsFront, BreaksOff}

-- the reader told its end
abbrev pub HasToldEnd : SessionEnd → Type 0
HasToldEnd Closed = Unit {0}
HasToldEnd Cut = Unit {0}
HasToldEnd (Refused fault) = ⊥
HasToldEnd ReadFailed = ⊥
HasToldEnd WriteFailed = ⊥
HasToldEnd NoMemory = ⊥

-- how often the source has told its end after a session that ended this way, if it had told it this often before
abbrev pub ends_after : SessionEnd → ℕ → ℕ
ends_after Closed ends = next_end ends
ends_after Cut ends = next_end ends
ends_after (Refused fault) ends = ends
ends_after ReadFailed ends = ends
ends_after WriteFailed ends = ends
ends_after NoMemory ends = ends

-- how many reads failed in a session that ended this way
abbrev pub failed_reads : SessionEnd → ℕ
failed_reads Closed = 0
failed_reads Cut = 0
failed_reads (Refused fault) = 0
failed_reads ReadFailed = 1
failed_reads WriteFailed = 0
failed_reads NoMemory = 0

-- how many writes failed in it
abbrev pub failed_writes : SessionEnd → ℕ
failed_writes Closed = 0
failed_writes Cut = 0
failed_writes (Refused fault) = 0
failed_writes ReadFailed = 0
failed_writes WriteFailed = 1
failed_writes NoMemory = 0

-- the frame of a refusal that ends a session
abbrev pub refusal : ℕ → List ℕ
refusal number = response_frame (reply.Refused number 0)

-- the input is what was taken and the piece of the last read, which gave this number of bytes, at least one
abbrev pub LacksLast : List ℕ → ℕ → List ℕ → Type 0
LacksLast read last taken = (piece : List ℕ) × (read ≡ taken ++ piece) × (length piece ≡ last) × (1 ≤ last)

module _ {S : Type 0} (Answers : Option Version → S → Request → List Response → S → Type 0) where
  -- the input is requests, which were all answered by these bytes, and then the held rest
  abbrev pub AllAnswered : S → List ℕ → Held → List ℕ → S → Type 0
  AllAnswered old read held written new =
      (requests : List Request) × Frames None read requests held × Answered Answers None old requests written new

  -- memory for the piece of the last read was refused; all requests before it are answered
  abbrev pub RunsOut : S → List ℕ → ℕ → List ℕ → S → Type 0
  RunsOut old read last written new =
      (taken : List ℕ) × LacksLast read last taken
      × (hello : Option Version) × (rest : List ℕ) × AllAnswered old taken (open_at hello rest) written new

  -- after the answers a refusal of this number is owed: the input has the fault, or memory for its last piece was refused
  abbrev pub Owes : S → List ℕ → ℕ → ℕ → List ℕ → S → Type 0
  Owes old read last number written new =
      ((fault : ProtocolFault) × (number ≡ protocol_fault_number fault) × AllAnswered old read (failed fault) written new)
      ⊎ ((number ≡ 9) × RunsOut old read last written new)

  -- a session that ended this way had read and written these bytes, this number of them by the last read, and left the
  -- last state. A request that was refused memory has an answer like the others, and ends nothing
  abbrev pub Ended : S → SessionEnd → List ℕ → ℕ → List ℕ → S → Type 0
  Ended old Closed read last written new = (hello : Option Version) × AllAnswered old read (open_at hello []) written new
  Ended old Cut read last written new =
      (hello : Option Version) × (rest : List ℕ) × (rest ≢ []) × AllAnswered old read (open_at hello rest) written new
  Ended old (Refused fault) read last written new =
      (before : List ℕ) × AllAnswered old read (failed fault) before new × (written ≡ before ++ refusal (protocol_fault_number fault))
  Ended old ReadFailed read last written new =
      (hello : Option Version) × (rest : List ℕ) × AllAnswered old read (open_at hello rest) written new
  Ended old WriteFailed read last written new =
      ((requests : List Request) × (held : Held) × Frames None read requests held × BreaksOff Answers None old requests written new)
      ⊎ (((number : ℕ) × (before : List ℕ) × (part : List ℕ)
      × Owes old read last number before new × IsFront part (refusal number) × (written ≡ before ++ part))
      ⊎ ((hello : Option Version) × (rest : List ℕ) × AllAnswered old read (open_at hello rest) written new))
  Ended old NoMemory read last written new =
      (before : List ℕ) × RunsOut old read last before new × (written ≡ before ++ refusal 9)
