-- The results of readers of fields and of bodies.
use Rattle.std.specs.Prelude.{◌≡◌, ℕ, ◌≤◌, ◌<◌, length, List, [], ◌∷◌, ◌++◌, Option}
use Rattle.bpf_model.specs.declared.input.Sizes.{Sizes}
use Rattle.client_protocol.specs.declared.limits.Version.{Version}
use Rattle.client_protocol.specs.declared.limits.Limits.{Limits}
use Rattle.client_protocol.specs.Requests.{Request}
use Rattle.client_protocol.specs.declared.fault.ProtocolFault.{ProtocolFault}
use Rattle.client_protocol.specs.declared.reading.BodyFault.{BodyFault}
use Rattle.client_protocol.specs.declared.reading.BodyFault.TheVariants.{NoMemory, Fault}
use Rattle.client_protocol.specs.Bodies.{Kind, Field, field_bytes, IsField, TakesAll, Body, IsBody, body_bytes, sizes_fields, hello_after}
use Rattle.client_protocol.specs.Bodies.Kind.{a_short}
use Rattle.client_protocol.specs.Frames.{frame_of, IsRequest, IsBeginning}

-- bytes that begin with a field of this kind
abbrev pub TakesField : Limits → Kind → List ℕ → Field → List ℕ → Type 0
TakesField limits kind bytes field rest = IsField limits kind field × (bytes ≡ field_bytes field ++ rest)

-- no field of this kind begins the bytes, and no fields of these kinds do
abbrev pub NoField : Limits → Kind → List ℕ → Type 0
NoField limits kind bytes = (field : Field) (rest : List ℕ) → TakesField limits kind bytes field rest → ⊥

abbrev pub NoFields : Limits → List Kind → List ℕ → Type 0
NoFields limits kinds bytes = (fields : List Field) (tail : List ℕ) → TakesAll limits kinds bytes fields tail → ⊥

-- the bytes begin with four sizes, or they don't
abbrev pub TakesSizes : Limits → List ℕ → Sizes → List ℕ → Type 0
TakesSizes limits bytes sizes rest = TakesAll limits (a_short ∷ a_short ∷ a_short ∷ a_short ∷ []) bytes (sizes_fields sizes) rest

abbrev pub NoSizes : Limits → List ℕ → Type 0
NoSizes limits bytes = NoFields limits (a_short ∷ a_short ∷ a_short ∷ a_short ∷ []) bytes

-- the bytes are this body
abbrev pub SpellsBody : Limits → List ℕ → Body → Type 0
SpellsBody limits bytes body = IsBody limits body × (bytes ≡ body_bytes body)

abbrev pub IfFault : BodyFault → (ProtocolFault → Type 0) → Type 0
IfFault NoMemory P = Unit {0}
IfFault (Fault fault) P = P fault

-- the frame that begins here lacks n bytes, of its length or else of its body: with fewer it stays a beginning, and
-- with this many no byte comes after it
pub record Lacks (hello : Option Version) (bytes : List ℕ) (n : ℕ) : Type 0 where
  pub some : 1 ≤ n
  pub fewer : (more : List ℕ) → length more < n → IsBeginning hello (bytes ++ more)
  pub no_more : (more : List ℕ) (request : Request) (behind : List ℕ) → length more ≤ n → IsRequest hello request
      → bytes ++ more ≡ frame_of request ++ behind → behind ≡ []

-- the first frame of the bytes is a request that may come, and it was added to the list; the Hello taken then, and the
-- bytes after the frame
pub record Adds (hello : Option Version) (bytes : List ℕ) (old new : List Request) (after : Option Version) (behind : List ℕ) : Type 0 where
  pub request : Request
  pub comes : IsRequest hello request
  pub spelled : bytes ≡ frame_of request ++ behind
  pub taken : after ≡ hello_after hello request
  pub added : new ≡ old ++ request ∷ []
