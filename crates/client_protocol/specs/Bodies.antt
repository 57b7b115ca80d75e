-- The body of a request's frame, and which fault a body has. This map's profile.
use Rattle.std.specs.Prelude.{◌≡◌, ◌≢◌, ℕ, ◌≤◌, ◌<◌, ◌^◌, ◌⊎◌, Bool, true, false, List, [], ◌∷◌, ◌++◌, length, flat_map, Option, Some, None, nat_eq, if◌then◌else◌}
use Rattle.std.specs.Int.{w16, w32, w64, to_be_bytes}
use Rattle.bpf_model.specs.declared.limits.TheConstants.{KEY_BYTES, PROGRAM_UNITS}
use Rattle.bpf_model.specs.declared.input.Sizes.{Sizes}
use Rattle.client_protocol.specs.declared.limits.Version.{Version}
use Rattle.client_protocol.specs.declared.limits.Version.TheVariants.{One, Two}
use Rattle.client_protocol.specs.declared.limits.Limits.{Limits}
use Rattle.client_protocol.specs.Requests.{Request}
use Rattle.client_protocol.specs.Requests.Request.{Hello, Register, Get, Put, PutIfAbsent, Remove, RemoveIf, Replace, ReplaceIf, Compute, ComputeIfAbsent, ComputeIfPresent, Merge, Search, ForEach, ReplaceAll, Count}
use Rattle.client_protocol.specs.declared.fault.ProtocolFault.{ProtocolFault}
use Rattle.client_protocol.specs.declared.fault.ProtocolFault.TheVariants.{BadLength, UnknownRequest, BadField, TrailingBytes, WrongVersion}

-- the limits after this Hello was taken, or before any: in version 1, and until then, bodies of at most 8,192 bytes,
-- values of at most 256 and programs of at most 512 units; in version 2, bodies of at most 32,777 bytes, values of at
-- most 1,024 and any program
abbrev pub limits_after : Option Version → Limits
limits_after None = record { body = 8192; value = 256; units = 512 }
limits_after (Some One) = record { body = 8192; value = 256; units = 512 }
limits_after (Some Two) = record { body = 32777; value = 1024; units = PROGRAM_UNITS }

abbrev pub version_number : Version → ℕ
version_number One = 1
version_number Two = 2

-- ---- fields

-- the kinds of a field: a number of 8, 16 or 64 bits, a key, a value, a value or nothing
pub data Kind : Type 0 where
  a_byte : Kind
  a_short : Kind
  a_long : Kind
  a_key : Kind
  a_value : Kind
  an_opt : Kind

-- a field: a number of 8, 16, 32 or 64 bits, a key, a value, a value or nothing
pub data Field : Type 0 where
  byte : ℕ → Field
  short : ℕ → Field
  word : ℕ → Field
  long : ℕ → Field
  key : List ℕ → Field
  value : List ℕ → Field
  opt : Option (List ℕ) → Field

-- a value after its length of 16 bits
abbrev pub value_bytes : List ℕ → List ℕ
value_bytes bytes = to_be_bytes w16 (length bytes) ++ bytes

-- numbers are big-endian; a key comes after a length of 8 bits; nothing is 0xFFFF
abbrev pub field_bytes : Field → List ℕ
field_bytes (byte n) = n ∷ []
field_bytes (short n) = to_be_bytes w16 n
field_bytes (word n) = to_be_bytes w32 n
field_bytes (long n) = to_be_bytes w64 n
field_bytes (key bytes) = length bytes ∷ bytes
field_bytes (value bytes) = value_bytes bytes
field_bytes (opt (Some bytes)) = value_bytes bytes
field_bytes (opt None) = 255 ∷ 255 ∷ []

abbrev pub fields_bytes : List Field → List ℕ
fields_bytes fields = flat_map field_bytes fields

-- a value that may be sent: within the limit, and its length is not the 0xFFFF that means nothing
abbrev pub IsValue : Limits → List ℕ → Type 0
IsValue limits bytes = (length bytes ≤ limits.value) × (length bytes < 65535)

-- a field of this kind, within the limits
abbrev pub IsField : Limits → Kind → Field → Type 0
IsField limits a_byte (byte n) = n < 2 ^ 8
IsField limits a_short (short n) = n < 2 ^ 16
IsField limits a_long (long n) = n < 2 ^ 64
IsField limits a_key (key bytes) = length bytes ≤ KEY_BYTES
IsField limits a_value (value bytes) = IsValue limits bytes
IsField limits an_opt (opt (Some bytes)) = IsValue limits bytes
IsField limits an_opt (opt None) = Unit {0}
IsField limits kind field = ⊥

-- fields of these kinds, in order
abbrev pub AreFields : Limits → List Kind → List Field → Type 0
AreFields limits [] [] = Unit {0}
AreFields limits (kind ∷ kinds) (field ∷ fields) = IsField limits kind field × AreFields limits kinds fields
AreFields limits kinds fields = ⊥

-- ---- the table

-- the fields that the request with this tag has
abbrev pub kinds_of : ℕ → Option (List Kind)
kinds_of tag =
    if nat_eq tag 0x00 then Some (a_byte ∷ [])
    else (if nat_eq tag 0x01 then Some (a_short ∷ a_short ∷ a_short ∷ a_short ∷ [])
    else (if nat_eq tag 0x10 then Some (a_key ∷ [])
    else (if nat_eq tag 0x11 then Some (a_key ∷ a_value ∷ [])
    else (if nat_eq tag 0x12 then Some (a_key ∷ a_value ∷ [])
    else (if nat_eq tag 0x13 then Some (a_key ∷ [])
    else (if nat_eq tag 0x14 then Some (a_key ∷ a_value ∷ [])
    else (if nat_eq tag 0x15 then Some (a_key ∷ a_value ∷ [])
    else (if nat_eq tag 0x16 then Some (a_key ∷ a_value ∷ a_value ∷ [])
    else (if nat_eq tag 0x17 then Some (a_key ∷ a_long ∷ an_opt ∷ [])
    else (if nat_eq tag 0x18 then Some (a_key ∷ a_long ∷ an_opt ∷ [])
    else (if nat_eq tag 0x19 then Some (a_key ∷ a_long ∷ an_opt ∷ [])
    else (if nat_eq tag 0x1A then Some (a_key ∷ a_value ∷ a_long ∷ [])
    else (if nat_eq tag 0x20 then Some (a_long ∷ an_opt ∷ a_long ∷ [])
    else (if nat_eq tag 0x21 then Some (a_long ∷ an_opt ∷ a_long ∷ [])
    else (if nat_eq tag 0x22 then Some (a_long ∷ an_opt ∷ [])
    else (if nat_eq tag 0x23 then Some [] else None))))))))))))))))

-- after the fields of a Register comes a program, to the frame's end; after all others comes nothing
abbrev pub takes_tail : ℕ → Bool
takes_tail tag = nat_eq tag 0x01

-- ---- bodies

-- a tag, fields, and the bytes after them
pub record Body : Type 0 where
  pub tag : ℕ
  pub fields : List Field
  pub tail : List ℕ

abbrev pub body_bytes : Body → List ℕ
body_bytes body = body.tag ∷ (fields_bytes body.fields ++ body.tail)

-- a tag, its fields within the limits, and no bytes after them if there may be none
pub record IsBody (limits : Limits) (body : Body) : Type 0 where
  pub kinds : List Kind
  pub known : kinds_of body.tag ≡ Some kinds
  pub fields : AreFields limits kinds body.fields
  pub tail : (takes_tail body.tag ≡ true) ⊎ (body.tail ≡ [])

abbrev pub body_of_fields : ℕ → List Field → Body
body_of_fields tag fields = record { tag = tag; fields = fields; tail = [] }

abbrev pub sizes_fields : Sizes → List Field
sizes_fields sizes = short sizes.key ∷ short sizes.old ∷ short sizes.arg ∷ short sizes.result ∷ []

-- a request's body
abbrev pub body_of : Request → Body
body_of (Hello version) = body_of_fields 0x00 (byte (version_number version) ∷ [])
body_of (Register sizes program) = record { tag = 0x01; fields = sizes_fields sizes; tail = program }
body_of (Get k) = body_of_fields 0x10 (key k ∷ [])
body_of (Put k v) = body_of_fields 0x11 (key k ∷ value v ∷ [])
body_of (PutIfAbsent k v) = body_of_fields 0x12 (key k ∷ value v ∷ [])
body_of (Remove k) = body_of_fields 0x13 (key k ∷ [])
body_of (RemoveIf k expected) = body_of_fields 0x14 (key k ∷ value expected ∷ [])
body_of (Replace k v) = body_of_fields 0x15 (key k ∷ value v ∷ [])
body_of (ReplaceIf k expected v) = body_of_fields 0x16 (key k ∷ value expected ∷ value v ∷ [])
body_of (Compute k program arg) = body_of_fields 0x17 (key k ∷ long program ∷ opt arg ∷ [])
body_of (ComputeIfAbsent k program arg) = body_of_fields 0x18 (key k ∷ long program ∷ opt arg ∷ [])
body_of (ComputeIfPresent k program arg) = body_of_fields 0x19 (key k ∷ long program ∷ opt arg ∷ [])
body_of (Merge k v program) = body_of_fields 0x1A (key k ∷ value v ∷ long program ∷ [])
body_of (Search program arg threshold) = body_of_fields 0x20 (long program ∷ opt arg ∷ long threshold ∷ [])
body_of (ForEach program arg threshold) = body_of_fields 0x21 (long program ∷ opt arg ∷ long threshold ∷ [])
body_of (ReplaceAll program arg) = body_of_fields 0x22 (long program ∷ opt arg ∷ [])
body_of Count = body_of_fields 0x23 []

-- ---- whose turn it is

abbrev pub is_hello : Request → Bool
is_hello (Hello version) = true
is_hello request = false

abbrev pub is_none : Option Version → Bool
is_none None = true
is_none (Some version) = false

-- the first request, and no other, is a Hello
abbrev pub MayCome : Option Version → Request → Type 0
MayCome hello request = is_hello request ≡ is_none hello

-- the Hello taken, after a request
abbrev pub hello_after : Option Version → Request → Option Version
hello_after hello (Hello version) = Some version
hello_after hello request = hello

-- the bytes are this request's body, and it may come now
pub record IsBodyOf (hello : Option Version) (bytes : List ℕ) (request : Request) : Type 0 where
  pub body : IsBody (limits_after hello) (body_of request)
  pub comes : MayCome hello request
  pub spelled : bytes ≡ body_bytes (body_of request)

-- ---- faults of a body

-- bytes that begin with fields of these kinds
abbrev pub TakesAll : Limits → List Kind → List ℕ → List Field → List ℕ → Type 0
TakesAll limits kinds bytes fields tail = AreFields limits kinds fields × (bytes ≡ fields_bytes fields ++ tail)

-- no request has this tag
pub record IsUnknown (bytes : List ℕ) : Type 0 where
  pub tag : ℕ
  pub rest : List ℕ
  pub spelled : bytes ≡ tag ∷ rest
  pub unknown : kinds_of tag ≡ None

-- the bytes after the tag do not begin with its fields
pub record HasBadField (limits : Limits) (bytes : List ℕ) : Type 0 where
  pub tag : ℕ
  pub rest : List ℕ
  pub kinds : List Kind
  pub spelled : bytes ≡ tag ∷ rest
  pub known : kinds_of tag ≡ Some kinds
  pub bad : (fields : List Field) (tail : List ℕ) → TakesAll limits kinds rest fields tail → ⊥

-- there are bytes after the fields although none may be there
pub record HasTrailing (limits : Limits) (bytes : List ℕ) : Type 0 where
  pub body : Body
  pub kinds : List Kind
  pub spelled : bytes ≡ body_bytes body
  pub known : kinds_of body.tag ≡ Some kinds
  pub fields : AreFields limits kinds body.fields
  pub no_tail : takes_tail body.tag ≡ false
  pub trailing : 1 ≤ length body.tail

-- a body of a request that may not come now
pub record IsMisplaced (hello : Option Version) (bytes : List ℕ) : Type 0 where
  pub body : Body
  pub is : IsBody (limits_after hello) body
  pub spelled : bytes ≡ body_bytes body
  pub misplaced : (request : Request) → MayCome hello request → body_of request ≢ body

-- the fault of a whole body: one of these at most, and none if it is a request's
abbrev pub BodyHas : Option Version → List ℕ → ProtocolFault → Type 0
BodyHas hello bytes BadLength = ⊥
BodyHas hello bytes UnknownRequest = IsUnknown bytes
BodyHas hello bytes BadField = HasBadField (limits_after hello) bytes
BodyHas hello bytes TrailingBytes = HasTrailing (limits_after hello) bytes
BodyHas hello bytes WrongVersion = IsMisplaced hello bytes
