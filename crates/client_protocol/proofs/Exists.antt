-- Bytes have some list and some rest.
use Rattle.std.proofs.Common.{◌≡◌, ◌≢◌, ℕ, zero, suc, ◌+◌, ◌^◌, ◌<◌, ◌≤◌, ◌⊎◌, inl, inr, arith, Bool, true, false, List, [], ◌∷◌, ◌++◌, length, take, drop, get_or, Option, Some, None, refl, sym, ap, subst, ◌∙◌, append_assoc, length-drop, length-take-le, take-append-drop}
use Rattle.std.specs.Prelude.{nat_eq, if◌then◌else◌}
use Rattle.std.specs.Int.{w16, w32, w64, to_be_bytes, from_be_bytes}
use Rattle.std.proofs.lemmas.Nat.{be_bytes_2, be_bytes_4, be_bytes_8}
use Rattle.client_protocol.specs.declared.limits.Version.{Version}
use Rattle.client_protocol.specs.declared.limits.Limits.{Limits}
use Rattle.client_protocol.specs.Requests.{Request}
use Rattle.client_protocol.specs.declared.fault.ProtocolFault.{ProtocolFault}
use Rattle.client_protocol.specs.declared.fault.ProtocolFault.TheVariants.{BadLength, UnknownRequest, BadField, TrailingBytes, WrongVersion}
use Rattle.client_protocol.specs.Bodies.{limits_after, Kind, Field, kinds_of, takes_tail, TakesAll, Body, body_of, body_bytes, IsBody, IsBodyOf, BodyHas, is_hello, is_none, hello_after}
use Rattle.client_protocol.specs.Bodies.Kind.{a_byte, a_short, a_long, a_key, a_value, an_opt}
use Rattle.client_protocol.specs.Bodies.Field.{byte, short, word, long, key, value, opt}
use Rattle.client_protocol.specs.Frames.{AreBytes, framed, length_bytes, IsLength, IsFaulty, Held, Frames}
use Rattle.client_protocol.specs.Frames.Held.{open_at, failed}
use Rattle.client_protocol.specs.Reading.{TakesField, NoField, NoFields}
use Rattle.client_protocol.proofs.FieldLaws.{no_byte, no_short, no_long, no_key-empty, no_key, no_value-short, no_value, no_opt-short, no_opt, value_found, none_first, none_later, takes_more}
use Rattle.client_protocol.proofs.BodyLaws.{bad_fields, trailing, misplaced}
use Rattle.client_protocol.proofs.Unique.{request_of, request_again}
use Rattle.client_protocol.proofs.HeldLaws.{frames_first, frames_begun, frames_failed}

-- ---- cases that can be told apart

le_or : (m n : ℕ) → (m ≤ n) ⊎ (n < m)
le_or zero n = inl (omega arith)
le_or (suc m) zero = inr (omega arith)
le_or (suc m) (suc n) = elim (le_or m n) [ inl h ↦ inl (omega (arith, h)) | inr h ↦ inr (omega (arith, h)) ]

eq_or : (m n : ℕ) → (m ≡ n) ⊎ (m ≢ n)
eq_or m n = elim (le_or m n) [
  | inr more ↦ inr (λ e. absurd (omega (arith, more, e)))
  | inl at_most ↦ elim (le_or n m) [ inl at_least ↦ inl (omega (arith, at_most, at_least)) | inr less ↦ inr (λ e. absurd (omega (arith, less, e))) ]
]

bool_or : (a b : Bool) → (a ≡ b) ⊎ (a ≢ b)
bool_or true true = inl refl
bool_or true false = inr (λ e. absurd cc)
bool_or false true = inr (λ e. absurd cc)
bool_or false false = inl refl

same_first : {A : Type 0} (x y : A) (xs ys : List A) → x ∷ xs ≡ y ∷ ys → x ≡ y
same_first x y xs ys e = cc

same_later : {A : Type 0} (x y : A) (xs ys : List A) → x ∷ xs ≡ y ∷ ys → xs ≡ ys
same_later x y xs ys e = cc

both_same : {A : Type 0} (x y : A) (xs ys : List A) → x ≡ y → xs ≡ ys → x ∷ xs ≡ y ∷ ys
both_same x y xs ys p q = cc

list_or : {A : Type 0} (or : (x y : A) → (x ≡ y) ⊎ (x ≢ y)) (xs ys : List A) → (xs ≡ ys) ⊎ (xs ≢ ys)
list_or or [] [] = inl refl
list_or or [] (y ∷ ys) = inr (λ e. absurd cc)
list_or or (x ∷ xs) [] = inr (λ e. absurd cc)
list_or or (x ∷ xs) (y ∷ ys) = elim (or x y) [
  | inr not ↦ inr (λ e. not (same_first x y xs ys e))
  | inl head ↦ elim (list_or or xs ys) [ inr not ↦ inr (λ e. not (same_later x y xs ys e)) | inl rest ↦ inl (both_same x y xs ys head rest) ]
]

-- fields as lists of numbers
abbrev first_of : List ℕ → ℕ
first_of [] = 0
first_of (n ∷ ns) = n

abbrev code : Field → List ℕ
code (byte n) = 0 ∷ n ∷ []
code (short n) = 1 ∷ n ∷ []
code (word n) = 2 ∷ n ∷ []
code (long n) = 3 ∷ n ∷ []
code (key bytes) = 4 ∷ bytes
code (value bytes) = 5 ∷ bytes
code (opt (Some bytes)) = 6 ∷ bytes
code (opt None) = 7 ∷ []

abbrev field_with : ℕ → List ℕ → Field
field_with kind ns =
    if nat_eq kind 0 then byte (first_of ns)
    else (if nat_eq kind 1 then short (first_of ns)
    else (if nat_eq kind 2 then word (first_of ns)
    else (if nat_eq kind 3 then long (first_of ns)
    else (if nat_eq kind 4 then key ns
    else (if nat_eq kind 5 then value ns
    else (if nat_eq kind 6 then opt (Some ns) else opt None))))))

abbrev field_from : List ℕ → Field
field_from [] = opt None
field_from (kind ∷ ns) = field_with kind ns

field_again : (f : Field) → field_from (code f) ≡ f
field_again (byte n) = refl
field_again (short n) = refl
field_again (word n) = refl
field_again (long n) = refl
field_again (key bytes) = refl
field_again (value bytes) = refl
field_again (opt (Some bytes)) = refl
field_again (opt None) = refl

field_or : (f g : Field) → (f ≡ g) ⊎ (f ≢ g)
field_or f g = elim (list_or eq_or (code f) (code g)) [
  | inl e ↦ inl (sym (field_again f) ∙ ap field_from e ∙ field_again g)
  | inr not ↦ inr (λ e. not (ap code e))
]

made : ℕ → List Field → List ℕ → Body
made tag fields tail = record { tag = tag; fields = fields; tail = tail }

body_or : (v w : Body) → (v ≡ w) ⊎ (v ≢ w)
unfolding made
body_or v w = elim (eq_or v.tag w.tag) [
  | inr not ↦ inr (λ e. not (ap (λ (b : Body). b.tag) e))
  | inl t ↦ elim (list_or field_or v.fields w.fields) [
    | inr not ↦ inr (λ e. not (ap (λ (b : Body). b.fields) e))
    | inl f ↦ elim (list_or eq_or v.tail w.tail) [
      | inr not ↦ inr (λ e. not (ap (λ (b : Body). b.tail) e))
      | inl r ↦ inl (ap (λ (n : ℕ). made n v.fields v.tail) t ∙ ap (λ (x : List Field). made w.tag x v.tail) f ∙ ap (λ (x : List ℕ). made w.tag w.fields x) r)
    ]
  ]
]

-- ---- bytes

bytes_drop : (n : ℕ) (bytes : List ℕ) → AreBytes bytes → AreBytes (drop n bytes)
bytes_drop zero bytes p = p
bytes_drop (suc n) [] p = p
bytes_drop (suc n) (b ∷ bytes) p = bytes_drop n bytes p.1

bytes_take : (n : ℕ) (bytes : List ℕ) → AreBytes bytes → AreBytes (take n bytes)
bytes_take zero bytes p = tt
bytes_take (suc n) [] p = tt
bytes_take (suc n) (b ∷ bytes) p = (p.0, bytes_take n bytes p.1)

bytes_get : (bytes : List ℕ) → AreBytes bytes → (i : ℕ) → get_or bytes i 0 < 256
bytes_get [] p zero = omega arith
bytes_get [] p (suc i) = omega arith
bytes_get (b ∷ bytes) p zero = p.0
bytes_get (b ∷ bytes) p (suc i) = bytes_get bytes p.1 i

-- a number of 16 bits, and the bytes after it
abbrev Short : List ℕ → Type 0
Short bytes = (n : ℕ) × (rest : List ℕ) × (n < 2 ^ 16) × (bytes ≡ to_be_bytes w16 n ++ rest) × AreBytes rest

short_at : (bytes : List ℕ) → AreBytes bytes → Short bytes ⊎ (length bytes < 2)
short_at [] p = inr (omega arith)
short_at (a ∷ []) p = inr (omega arith)
short_at (a ∷ b ∷ bytes) p =
    let front = a ∷ b ∷ [] in
    let spelled = be_bytes_2 front (from_be_bytes w16 front) refl (bytes_get front (bytes_take 2 (a ∷ b ∷ bytes) p)) refl in
    inl (from_be_bytes w16 front, bytes, omega (arith, p.0, p.1.0), ap (λ (t : List ℕ). t ++ bytes) (sym spelled), p.1.1)

abbrev Word : List ℕ → Type 0
Word bytes = (n : ℕ) × (rest : List ℕ) × (n < 2 ^ 32) × (bytes ≡ to_be_bytes w32 n ++ rest) × AreBytes rest

word_at : (bytes : List ℕ) → AreBytes bytes → Word bytes ⊎ (length bytes < 4)
word_at [] p = inr (omega arith)
word_at (a ∷ []) p = inr (omega arith)
word_at (a ∷ b ∷ []) p = inr (omega arith)
word_at (a ∷ b ∷ c ∷ []) p = inr (omega arith)
word_at (a ∷ b ∷ c ∷ d ∷ bytes) p =
    let front = a ∷ b ∷ c ∷ d ∷ [] in
    let four = bytes_take 4 (a ∷ b ∷ c ∷ d ∷ bytes) p in
    let spelled = be_bytes_4 front (from_be_bytes w32 front) refl (bytes_get front four) refl in
    inl (from_be_bytes w32 front, bytes, omega (arith, p.0, p.1.0, p.1.1.0, p.1.1.1.0), ap (λ (t : List ℕ). t ++ bytes) (sym spelled), p.1.1.1.1)

abbrev Long : List ℕ → Type 0
Long bytes = (n : ℕ) × (rest : List ℕ) × (n < 2 ^ 64) × (bytes ≡ to_be_bytes w64 n ++ rest) × AreBytes rest

long_at : (bytes : List ℕ) → AreBytes bytes → Long bytes ⊎ (length bytes < 8)
long_at [] p = inr (omega arith)
long_at (a ∷ []) p = inr (omega arith)
long_at (a ∷ b ∷ []) p = inr (omega arith)
long_at (a ∷ b ∷ c ∷ []) p = inr (omega arith)
long_at (a ∷ b ∷ c ∷ d ∷ []) p = inr (omega arith)
long_at (a ∷ b ∷ c ∷ d ∷ e ∷ []) p = inr (omega arith)
long_at (a ∷ b ∷ c ∷ d ∷ e ∷ f ∷ []) p = inr (omega arith)
long_at (a ∷ b ∷ c ∷ d ∷ e ∷ f ∷ g ∷ []) p = inr (omega arith)
long_at (a ∷ b ∷ c ∷ d ∷ e ∷ f ∷ g ∷ h ∷ bytes) p =
    let front = a ∷ b ∷ c ∷ d ∷ e ∷ f ∷ g ∷ h ∷ [] in
    let eight = bytes_take 8 (a ∷ b ∷ c ∷ d ∷ e ∷ f ∷ g ∷ h ∷ bytes) p in
    let spelled = be_bytes_8 front (from_be_bytes w64 front) refl (bytes_get front eight) refl in
    inl (from_be_bytes w64 front, bytes, omega (arith, p.0, p.1.0, p.1.1.0, p.1.1.1.0, p.1.1.1.1.0, p.1.1.1.1.1.0, p.1.1.1.1.1.1.0, p.1.1.1.1.1.1.1.0), ap (λ (t : List ℕ). t ++ bytes) (sym spelled), p.1.1.1.1.1.1.1.1)

-- ---- fields

abbrev Found : Limits → Kind → List ℕ → Type 0
Found limits kind bytes = (field : Field) × (rest : List ℕ) × TakesField limits kind bytes field rest × AreBytes rest

abbrev Reads : Limits → Kind → List ℕ → Type 0
Reads limits kind bytes = Found limits kind bytes ⊎ NoField limits kind bytes

read_key : (limits : Limits) (bytes : List ℕ) → AreBytes bytes → Reads limits a_key bytes
read_key limits [] p = inr (no_key-empty limits [] refl)
read_key limits (n ∷ bytes) p = elim (le_or n (length bytes)) [
  | inr bounded ↦ inr (no_key limits (n ∷ bytes) n bytes refl (λ fits. bounded))
  | inl enough ↦ elim (le_or n 64) [
    | inr big ↦ inr (no_key limits (n ∷ bytes) n bytes refl (λ fits. absurd (omega (arith, big, fits))))
    | inl small ↦
        let len : length (take n bytes) ≡ n = length-take-le n bytes enough in
        inl (
          key (take n bytes),
          drop n bytes,
          (omega (arith, len, small), ap (λ (k : ℕ). k ∷ bytes) (sym len) ∙ ap (λ (t : List ℕ). length (take n bytes) ∷ t) (sym (take-append-drop n bytes))),
          bytes_drop n bytes p.1,
        )
  ]
]

read_value : (hello : Option Version) (bytes : List ℕ) → Short bytes ⊎ (length bytes < 2) → Reads (limits_after hello) a_value bytes
read_value hello bytes (inr bounded) = inr (no_value-short (limits_after hello) bytes (no_short (limits_after hello) bytes bounded))
read_value hello bytes (inl (n, rest, fits, spelled, q)) = elim (le_or n (length rest)) [
  | inr bounded ↦ inr (no_value (limits_after hello) bytes n rest (fits, spelled) (λ _. bounded))
  | inl enough ↦ elim (le_or n (limits_after hello).value) [
    | inr big ↦ inr (no_value (limits_after hello) bytes n rest (fits, spelled) (λ small. absurd (omega (arith, big, small))))
    | inl small ↦ inl (
      value (take n rest),
      drop n rest,
      value_found hello bytes n rest (take n rest) (drop n rest) (fits, spelled) (sym (take-append-drop n rest), length-take-le n rest enough, small),
      bytes_drop n rest q,
    )
  ]
]

read_opt : (hello : Option Version) (bytes : List ℕ) → Short bytes ⊎ (length bytes < 2) → Reads (limits_after hello) an_opt bytes
read_opt hello bytes (inr bounded) = inr (no_opt-short (limits_after hello) bytes (no_short (limits_after hello) bytes bounded))
read_opt hello bytes (inl (n, rest, fits, spelled, q)) = elim (eq_or n 65535) [
  | inl absent ↦ inl (opt None, rest, (tt, spelled ∙ ap (λ (k : ℕ). to_be_bytes w16 k ++ rest) absent), q)
  | inr present ↦ elim (le_or n (length rest)) [
    | inr bounded ↦ inr (no_opt (limits_after hello) bytes n rest (fits, spelled) present (λ _. bounded))
    | inl enough ↦ elim (le_or n (limits_after hello).value) [
      | inr big ↦ inr (no_opt (limits_after hello) bytes n rest (fits, spelled) present (λ small. absurd (omega (arith, big, small))))
      | inl small ↦ inl (
        opt (Some (take n rest)),
        drop n rest,
        value_found hello bytes n rest (take n rest) (drop n rest) (fits, spelled) (sym (take-append-drop n rest), length-take-le n rest enough, small),
        bytes_drop n rest q,
      )
    ]
  ]
]

of_short : (limits : Limits) (bytes : List ℕ) → Short bytes ⊎ (length bytes < 2) → Reads limits a_short bytes
of_short limits bytes (inr bounded) = inr (no_short limits bytes bounded)
of_short limits bytes (inl (n, rest, fits, spelled, q)) = inl (short n, rest, (fits, spelled), q)

of_long : (limits : Limits) (bytes : List ℕ) → Long bytes ⊎ (length bytes < 8) → Reads limits a_long bytes
of_long limits bytes (inr bounded) = inr (no_long limits bytes bounded)
of_long limits bytes (inl (n, rest, fits, spelled, q)) = inl (long n, rest, (fits, spelled), q)

read_byte : (limits : Limits) (bytes : List ℕ) → AreBytes bytes → Reads limits a_byte bytes
read_byte limits [] p = inr (no_byte limits [] refl)
read_byte limits (b ∷ bytes) p = inl (byte b, bytes, (p.0, refl), p.1)

read_field : (hello : Option Version) (kind : Kind) (bytes : List ℕ) → AreBytes bytes → Reads (limits_after hello) kind bytes
read_field hello a_byte bytes p = read_byte (limits_after hello) bytes p
read_field hello a_short bytes p = of_short (limits_after hello) bytes (short_at bytes p)
read_field hello a_long bytes p = of_long (limits_after hello) bytes (long_at bytes p)
read_field hello a_key bytes p = read_key (limits_after hello) bytes p
read_field hello a_value bytes p = read_value hello bytes (short_at bytes p)
read_field hello an_opt bytes p = read_opt hello bytes (short_at bytes p)

abbrev ReadsAll : Limits → List Kind → List ℕ → Type 0
ReadsAll limits kinds bytes = ((fields : List Field) × (tail : List ℕ) × TakesAll limits kinds bytes fields tail) ⊎ NoFields limits kinds bytes

first_read : (hello : Option Version) (kind : Kind) (kinds : List Kind) (bytes : List ℕ) → ((rest : List ℕ) → AreBytes rest → ReadsAll (limits_after hello) kinds rest) → Reads (limits_after hello) kind bytes → ReadsAll (limits_after hello) (kind ∷ kinds) bytes
first_read hello kind kinds bytes others (inr none) = inr (none_first (limits_after hello) kind kinds bytes none)
first_read hello kind kinds bytes others (inl (field, rest, takes, q)) = elim (others rest q) [
  | inr none ↦ inr (none_later (limits_after hello) kind kinds bytes field rest takes none)
  | inl found ↦ inl (field ∷ found.0, found.1, takes_more (limits_after hello) kind kinds bytes field rest found.0 found.1 takes found.2)
]

read_fields : (hello : Option Version) (kinds : List Kind) (bytes : List ℕ) → AreBytes bytes → ReadsAll (limits_after hello) kinds bytes
read_fields hello [] bytes p = inl ([], bytes, (tt, refl))
read_fields hello (kind ∷ kinds) bytes p = first_read hello kind kinds bytes (λ rest q. read_fields hello kinds rest q) (read_field hello kind bytes p)

-- ---- bodies

abbrev ReadsBody : Option Version → List ℕ → Type 0
ReadsBody hello bytes = ((request : Request) × IsBodyOf hello bytes request) ⊎ ((fault : ProtocolFault) × BodyHas hello bytes fault)

of_body : (hello : Option Version) (bytes : List ℕ) (b : Body) → IsBody (limits_after hello) b → bytes ≡ body_bytes b → ReadsBody hello bytes
of_body hello bytes b is spelled = elim (body_or (body_of (request_of b)) b) [
  | inr not ↦ inr (
    WrongVersion,
    record {
      body = b;
      is = is;
      spelled = spelled;
      misplaced = λ q comes same. not (ap (λ (x : Body). body_of (request_of x)) (sym same) ∙ ap body_of (request_again q) ∙ same);
    },
  )
  | inl e ↦
      let again = subst (λ (x : Body). IsBody (limits_after hello) x) (sym e) is in
      let spells = spelled ∙ ap body_bytes (sym e) in
      elim (bool_or (is_hello (request_of b)) (is_none hello)) [
        | inl comes ↦ inl (request_of b, record { body = again; comes = comes; spelled = spells })
        | inr not ↦ inr (WrongVersion, misplaced hello bytes (request_of b) (again, spells) not)
      ]
]

behind_fields : (hello : Option Version) (tag : ℕ) (kinds : List Kind) (bytes : List ℕ) (fields : List Field) (tail : List ℕ) (takes : Bool) → takes_tail tag ≡ takes → kinds_of tag ≡ Some kinds → TakesAll (limits_after hello) kinds bytes fields tail → ReadsBody hello (tag ∷ bytes)
behind_fields hello tag kinds bytes fields tail true may known all =
    of_body hello (tag ∷ bytes) (record { tag = tag; fields = fields; tail = tail }) (record { kinds = kinds; known = known; fields = all.0; tail = inl may }) (ap (λ (t : List ℕ). tag ∷ t) all.1)
behind_fields hello tag kinds bytes fields [] false may known all =
    of_body hello (tag ∷ bytes) (record { tag = tag; fields = fields; tail = [] }) (record { kinds = kinds; known = known; fields = all.0; tail = inr refl }) (ap (λ (t : List ℕ). tag ∷ t) all.1)
behind_fields hello tag kinds bytes fields (b ∷ tail) false may known all =
    inr (TrailingBytes, trailing hello tag kinds bytes fields (b ∷ tail) known may all (omega arith))

of_kinds : (hello : Option Version) (tag : ℕ) (bytes : List ℕ) → AreBytes bytes → (o : Option (List Kind)) → kinds_of tag ≡ o → ReadsBody hello (tag ∷ bytes)
of_kinds hello tag bytes p None e = inr (UnknownRequest, record { tag = tag; rest = bytes; spelled = refl; unknown = e })
of_kinds hello tag bytes p (Some kinds) e = elim (read_fields hello kinds bytes p) [
  | inr none ↦ inr (BadField, bad_fields hello tag kinds bytes e none)
  | inl found ↦ behind_fields hello tag kinds bytes found.0 found.1 (takes_tail tag) refl e found.2
]

read_body : (hello : Option Version) (bytes : List ℕ) → 1 ≤ length bytes → AreBytes bytes → ReadsBody hello bytes
read_body hello [] some p = absurd (omega (arith, some))
read_body hello (tag ∷ bytes) some p = of_kinds hello tag bytes p.1 (kinds_of tag) refl

-- ---- frames

abbrev Stream : Option Version → List ℕ → Type 0
Stream hello bytes = (rs : List Request) × (held : Held) × Frames hello bytes rs held

faulty : (hello : Option Version) (bytes : List ℕ) (fault : ProtocolFault) → IsFaulty hello bytes fault → Stream hello bytes
faulty hello bytes fault bad = ([], failed fault, frames_failed hello bytes fault bad)

of_frame : (hello : Option Version) (bytes body behind : List ℕ) → IsLength hello (length body) → bytes ≡ framed body ++ behind → ((h : Option Version) → Stream h behind) → ReadsBody hello body → Stream hello bytes
of_frame hello bytes body behind allowed spelled others (inr (fault, has)) =
    faulty hello bytes fault (inr (record { body = body; more = behind; allowed = allowed; spelled = spelled; has = has }))
of_frame hello bytes body behind allowed spelled others (inl (request, is)) =
    let later = others (hello_after hello request) in
    let frame : bytes ≡ framed (body_bytes (body_of request)) ++ behind = spelled ∙ ap (λ (t : List ℕ). framed t ++ behind) is.spelled in
    let whole = subst (λ (t : List ℕ). IsBodyOf hello t request) is.spelled is in
    (request ∷ later.0, later.1, frames_first hello bytes behind request later.0 later.1 (record { allowed = subst (λ (t : List ℕ). IsLength hello (length t)) is.spelled allowed; body = whole }) frame later.2)

of_length : (hello : Option Version) (bytes : List ℕ) → ((behind : List ℕ) → length behind < length bytes → AreBytes behind → (h : Option Version) → Stream h behind) → Word bytes ⊎ (length bytes < 4) → Stream hello bytes
of_length hello bytes others (inr bounded) = ([], open_at hello bytes, frames_begun hello bytes bytes refl (inl bounded))
of_length hello bytes others (inl (n, rest, fits, spelled, q)) = elim (le_or 1 n) [
  | inr less ↦ faulty hello bytes BadLength (inl (refl, record { n = n; more = rest; number = fits; bad = λ is. absurd (omega (arith, less, is.0)); spelled = spelled }))
  | inl some ↦ elim (le_or n (limits_after hello).body) [
    | inr big ↦ faulty hello bytes BadLength (inl (refl, record { n = n; more = rest; number = fits; bad = λ is. absurd (omega (arith, big, is.1)); spelled = spelled }))
    | inl small ↦ elim (le_or n (length rest)) [
      | inr bounded ↦ ([], open_at hello bytes, frames_begun hello bytes bytes refl (inr (record { n = n; part = rest; allowed = (some, small); spelled = spelled; short = bounded })))
      | inl enough ↦
          let len : length (take n rest) ≡ n = length-take-le n rest enough in
          let whole = spelled ∙ ap (λ (t : List ℕ). length_bytes n ++ t) (sym (take-append-drop n rest)) ∙ sym (append_assoc (length_bytes n) (take n rest) (drop n rest)) in
          let frame = whole ∙ ap (λ (k : ℕ). (length_bytes k ++ take n rest) ++ drop n rest) (sym len) in
          let longer : length bytes ≡ 4 + length rest = ap length spelled ∙ omega arith in
          of_frame hello bytes (take n rest) (drop n rest) (omega (arith, len, some), omega (arith, len, small)) frame
          (others (drop n rest) (omega (arith, longer, length-drop n rest)) (bytes_drop n rest q))
          (read_body hello (take n rest) (omega (arith, len, some)) (bytes_take n rest q))
    ]
  ]
]

stream : (k : ℕ) (hello : Option Version) (bytes : List ℕ) → length bytes < k → AreBytes bytes → Stream hello bytes
stream zero hello bytes fits p = absurd (omega (arith, fits))
stream (suc k) hello bytes fits p =
    of_length hello bytes (λ behind shorter q h. stream k h behind (omega (arith, fits, shorter)) q) (word_at bytes p)

pub some_reading : (hello : Option Version) (bytes : List ℕ) → AreBytes bytes → (rs : List Request) × (held : Held) × Frames hello bytes rs held
some_reading hello bytes p = stream (suc (length bytes)) hello bytes (omega arith) p
