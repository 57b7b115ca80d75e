-- Faults of fields are faults of the body.
use Rattle.std.proofs.Common.{◌≡◌, ◌≢◌, ℕ, ◌≤◌, arith, false, List, [], ◌∷◌, ◌++◌, length, Option, Some, refl, sym, ap, ◌∙◌, inl}
use Rattle.std.specs.Prelude.{nat_eq}
use Rattle.bpf_model.specs.declared.input.Sizes.{Sizes}
use Rattle.client_protocol.specs.declared.limits.Version.{Version}
use Rattle.client_protocol.specs.declared.limits.Limits.{Limits}
use Rattle.client_protocol.specs.Requests.{Request}
use Rattle.client_protocol.specs.Requests.Request.{Hello, Register}
use Rattle.client_protocol.specs.declared.fault.ProtocolFault.TheVariants.{BadField, TrailingBytes}
use Rattle.client_protocol.specs.Bodies.{limits_after, Kind, Field, kinds_of, takes_tail, Body, body_of, body_of_fields, sizes_fields, fields_bytes, TakesAll, BodyHas, IsMisplaced, is_hello, is_none, version_number}
use Rattle.client_protocol.specs.Bodies.Kind.{a_short}
use Rattle.client_protocol.specs.Bodies.Field.{byte}
use Rattle.client_protocol.specs.Reading.{NoFields, SpellsBody, TakesSizes}

-- the bytes after a tag do not begin with its fields
pub bad_fields : (hello : Option Version) (tag : ℕ) (kinds : List Kind) (bytes : List ℕ) → kinds_of tag ≡ Some kinds → NoFields (limits_after hello) kinds bytes → BodyHas hello (tag ∷ bytes) BadField
bad_fields hello tag kinds bytes known none = record { tag = tag; rest = bytes; kinds = kinds; spelled = refl; known = known; bad = none }

-- bytes are left after the fields
pub trailing : (hello : Option Version) (tag : ℕ) (kinds : List Kind) (bytes : List ℕ) (fields : List Field) (tail : List ℕ) → kinds_of tag ≡ Some kinds → takes_tail tag ≡ false → TakesAll (limits_after hello) kinds bytes fields tail → 1 ≤ length tail → BodyHas hello (tag ∷ bytes) TrailingBytes
trailing hello tag kinds bytes fields tail known none takes more =
    record {
      body = record { tag = tag; fields = fields; tail = tail };
      kinds = kinds;
      spelled = ap (λ (t : List ℕ). tag ∷ t) takes.1;
      known = known;
      fields = takes.0;
      no_tail = none;
      trailing = more;
    }

-- a request is a Hello by its tag
pub hello_tag : (r : Request) → is_hello r ≡ nat_eq (body_of r).tag 0
hello_tag (Hello v) = refl
hello_tag r = refl

pub same_hello : (r q : Request) → body_of r ≡ body_of q → is_hello r ≡ is_hello q
same_hello r q e = hello_tag r ∙ ap (λ (w : Body). nat_eq w.tag 0) e ∙ sym (hello_tag q)

-- a request that may not come
pub misplaced : (hello : Option Version) (bytes : List ℕ) (request : Request) → SpellsBody (limits_after hello) bytes (body_of request) → is_hello request ≢ is_none hello → IsMisplaced hello bytes
misplaced hello bytes request spells not =
    record { body = body_of request; is = spells.0; spelled = spells.1; misplaced = λ other comes same. not (same_hello request other (sym same) ∙ comes) }

one_first : (xs ys : List Field) (m n : ℕ) → byte m ∷ xs ≡ byte n ∷ ys → m ≡ n
one_first xs ys m n e = cc

-- a Hello of another version
pub other_version : (n : ℕ) → ((v : Version) → version_number v ≢ n) → (r : Request) → body_of r ≢ body_of_fields 0 (byte n ∷ [])
other_version n not (Hello v) e = not v (one_first [] [] (version_number v) n (ap (λ (w : Body). w.fields) e))
other_version n not r e = let t : (body_of r).tag ≡ 0 = ap (λ (w : Body). w.tag) e in absurd (omega (arith, t))

pub version_misplaced : (hello : Option Version) (rest : List ℕ) (n : ℕ) → ((v : Version) → version_number v ≢ n) → SpellsBody (limits_after hello) (0 ∷ rest) (body_of_fields 0 (byte n ∷ [])) → IsMisplaced hello (0 ∷ rest)
version_misplaced hello rest n not spells =
    record { body = body_of_fields 0 (byte n ∷ []); is = spells.0; spelled = spells.1; misplaced = λ other comes same. other_version n not other same }

-- four sizes and a program are a Register
pub register_found : (limits : Limits) (rest : List ℕ) (sizes : Sizes) (program tail : List ℕ) → TakesSizes limits rest sizes tail → program ≡ tail → SpellsBody limits (1 ∷ rest) (body_of (Register sizes program))
register_found limits rest sizes program tail takes is = (
  record { kinds = a_short ∷ a_short ∷ a_short ∷ a_short ∷ []; known = refl; fields = takes.0; tail = inl refl },
  ap (λ (t : List ℕ). 1 ∷ t) (takes.1 ∙ ap (λ (t : List ℕ). fields_bytes (sizes_fields sizes) ++ t) (sym is)),
)
