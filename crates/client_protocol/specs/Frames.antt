-- Which requests a stream of bytes is, and its rest.
use Rattle.std.specs.Prelude.{◌≡◌, ℕ, ◌≤◌, ◌<◌, ◌^◌, ◌⊎◌, Bool, true, false, List, [], ◌∷◌, ◌++◌, length, flat_map, Option, Some, None}
use Rattle.std.specs.Int.{w32, to_be_bytes}
use Rattle.client_protocol.specs.declared.limits.Version.{Version}
use Rattle.client_protocol.specs.Requests.{Request}
use Rattle.client_protocol.specs.declared.fault.ProtocolFault.{ProtocolFault}
use Rattle.client_protocol.specs.declared.fault.ProtocolFault.TheVariants.{BadLength}
use Rattle.client_protocol.specs.Bodies.{limits_after, body_of, body_bytes, IsBodyOf, hello_after, BodyHas}

-- a frame: its body's length, and the body
abbrev pub length_bytes : ℕ → List ℕ
length_bytes n = to_be_bytes w32 n

abbrev pub framed : List ℕ → List ℕ
framed body = length_bytes (length body) ++ body

abbrev pub frame_of : Request → List ℕ
frame_of request = framed (body_bytes (body_of request))

abbrev pub frames_of : List Request → List ℕ
frames_of requests = flat_map frame_of requests

-- a length that a body may have
abbrev pub IsLength : Option Version → ℕ → Type 0
IsLength hello n = (1 ≤ n) × (n ≤ (limits_after hello).body)

-- a request that may come now, within the limits
pub record IsRequest (hello : Option Version) (request : Request) : Type 0 where
  pub allowed : IsLength hello (length (body_bytes (body_of request)))
  pub body : IsBodyOf hello (body_bytes (body_of request)) request

-- the requests may come in this order, if the first Hello was taken before them; then the second is taken
abbrev pub Follow : Option Version → List Request → Option Version → Type 0
Follow hello [] after = after ≡ hello
Follow hello (request ∷ requests) after = IsRequest hello request × Follow (hello_after hello request) requests after

-- a beginning of a frame, not a whole one: less than a length, or a length and less than its body
pub record IsBegun (hello : Option Version) (rest : List ℕ) : Type 0 where
  pub n : ℕ
  pub part : List ℕ
  pub allowed : IsLength hello n
  pub spelled : rest ≡ length_bytes n ++ part
  pub short : length part < n

abbrev pub IsBeginning : Option Version → List ℕ → Type 0
IsBeginning hello rest = (length rest < 4) ⊎ IsBegun hello rest

-- a length that no body may have, whatever follows
pub record HasBadLength (hello : Option Version) (rest : List ℕ) : Type 0 where
  pub n : ℕ
  pub more : List ℕ
  pub number : n < 2 ^ 32
  pub bad : IsLength hello n → ⊥
  pub spelled : rest ≡ length_bytes n ++ more

-- a whole frame whose body has this fault, whatever follows
pub record HasBadBody (hello : Option Version) (rest : List ℕ) (fault : ProtocolFault) : Type 0 where
  pub body : List ℕ
  pub more : List ℕ
  pub allowed : IsLength hello (length body)
  pub spelled : rest ≡ framed body ++ more
  pub has : BodyHas hello body fault

abbrev pub IsFaulty : Option Version → List ℕ → ProtocolFault → Type 0
IsFaulty hello rest fault = ((fault ≡ BadLength) × HasBadLength hello rest) ⊎ HasBadBody hello rest fault

-- the state of a feeder: the Hello taken and a rest, or its fault
pub data Held : Type 0 where
  open_at : Option Version → List ℕ → Held
  failed : ProtocolFault → Held

abbrev pub held_hello : Held → Option Version
held_hello (open_at hello rest) = hello
held_hello (failed fault) = None

abbrev pub held_fault : Held → Option ProtocolFault
held_fault (open_at hello rest) = None
held_fault (failed fault) = Some fault

-- the state if the rest is this
abbrev pub Ends : Option Version → List ℕ → Held → Type 0
Ends after rest (open_at hello held) = (hello ≡ after) × (held ≡ rest) × IsBeginning after rest
Ends after rest (failed fault) = IsFaulty after rest fault

-- read on from a Hello, the bytes are these requests in order and a rest, which leaves the last state
pub record Frames (hello : Option Version) (bytes : List ℕ) (requests : List Request) (held : Held) : Type 0 where
  pub after : Option Version
  pub rest : List ℕ
  pub follow : Follow hello requests after
  pub spelled : bytes ≡ frames_of requests ++ rest
  pub ends : Ends after rest held

-- a piece, fed to a feeder in the first state, gives these requests and leaves the last state
abbrev pub Feeds : Held → List ℕ → List Request → Held → Type 0
Feeds (open_at hello rest) piece requests new = Frames hello (rest ++ piece) requests new
Feeds (failed fault) piece requests new = (requests ≡ []) × (new ≡ failed fault)

abbrev pub held_of : Option Version → List ℕ → Option ProtocolFault → Held
held_of hello rest None = open_at hello rest
held_of hello rest (Some fault) = failed fault

-- each number is below 256
abbrev pub AreBytes : List ℕ → Type 0
AreBytes [] = Unit {0}
AreBytes (b ∷ bytes) = (b < 2 ^ 8) × AreBytes bytes

-- the feeder holds no more than the beginning of one frame
abbrev pub IsSoundHeld : Held → Type 0
IsSoundHeld (open_at hello rest) = IsBeginning hello rest
IsSoundHeld (failed fault) = Unit {0}

-- inside a frame
abbrev pub is_inside : Held → Bool
is_inside (open_at hello []) = false
is_inside (open_at hello (b ∷ rest)) = true
is_inside (failed fault) = false
