-- Bytes begin with fields in one way.
use Rattle.std.proofs.Common.{◌≡◌, ◌≢◌, ℕ, ◌+◌, ◌/◌, ◌%◌, ◌^◌, ◌<◌, ◌≤◌, List, [], ◌∷◌, ◌++◌, length, take, drop, Option, Some, None, refl, sym, ap, ◌∙◌, append_assoc, arith}
use Rattle.std.proofs.lemmas.List.{take_at, drop_at, length-append}
use Rattle.std.proofs.lemmas.Nat.{from_be_bytes-to_be_bytes_8}
use Rattle.std.specs.Int.{w16, w64, to_be_bytes, from_be_bytes}
use Rattle.client_protocol.specs.declared.limits.Version.{Version}
use Rattle.client_protocol.specs.declared.limits.Version.TheVariants.{One, Two}
use Rattle.client_protocol.specs.declared.limits.Limits.{Limits}
use Rattle.client_protocol.specs.Bodies.{limits_after, Kind, Field, field_bytes, fields_bytes, value_bytes, IsValue, IsField, AreFields, TakesAll}
use Rattle.client_protocol.specs.Bodies.Kind.{a_byte, a_short, a_long, a_key, a_value, an_opt}
use Rattle.client_protocol.specs.Bodies.Field.{byte, short, long, key, value, opt}
use Rattle.client_protocol.specs.Reading.{TakesField, NoField, NoFields}

-- fronts of one length
pub same_split : (a b x y : List ℕ) → length a ≡ length b → a ++ x ≡ b ++ y → (a ≡ b) × (x ≡ y)
same_split a b x y len e = (
  sym (take_at a x (length a) refl) ∙ ap (take (length a)) e ∙ take_at b y (length a) (sym len),
  sym (drop_at a x (length a) refl) ∙ ap (drop (length a)) e ∙ drop_at b y (length a) (sym len),
)

-- two numbers of 16 bits
pub same_short : (m n : ℕ) (x y : List ℕ) → m < 65536 → n < 65536 → to_be_bytes w16 m ++ x ≡ to_be_bytes w16 n ++ y → (m ≡ n) × (x ≡ y)
same_short m n x y lm ln e =
    let high : m / 256 % 256 ≡ n / 256 % 256 = cc in
    let low : m % 256 ≡ n % 256 = cc in
    (omega (arith, high, low), cc)

-- two numbers of 64 bits
pub same_long : (m n : ℕ) (x y : List ℕ) → m < 2 ^ 64 → n < 2 ^ 64 → to_be_bytes w64 m ++ x ≡ to_be_bytes w64 n ++ y → (m ≡ n) × (x ≡ y)
same_long m n x y lm ln e =
    let both = same_split (to_be_bytes w64 m) (to_be_bytes w64 n) x y refl e in
    (sym (from_be_bytes-to_be_bytes_8 m lm) ∙ ap (from_be_bytes w64) both.0 ∙ from_be_bytes-to_be_bytes_8 n ln, both.1)

-- two keys
pub same_key : (a b x y : List ℕ) → length a ∷ (a ++ x) ≡ length b ∷ (b ++ y) → (a ≡ b) × (x ≡ y)
same_key a b x y e =
    let len : length a ≡ length b = cc in
    let rest : a ++ x ≡ b ++ y = cc in
    same_split a b x y len rest

-- two values
pub same_value : (a b x y : List ℕ) → length a < 65535 → length b < 65535 → value_bytes a ++ x ≡ value_bytes b ++ y → (a ≡ b) × (x ≡ y)
same_value a b x y la lb e =
    let (len, rest) = same_short (length a) (length b) (a ++ x) (b ++ y) (omega (arith, la)) (omega (arith, lb)) e in
    same_split a b x y len rest

-- a value and nothing
pub value_or_none : (a x y : List ℕ) → length a < 65535 → value_bytes a ++ x ≡ 255 ∷ 255 ∷ y → ⊥
value_or_none a x y la e =
    let (len, rest) = same_short (length a) 65535 (a ++ x) y (omega (arith, la)) (omega arith) e in
    omega (arith, la, len)

-- bytes begin with one field of a kind
pub field_unique : (limits : Limits) (kind : Kind) (f g : Field) (x y : List ℕ) → IsField limits kind f → IsField limits kind g → field_bytes f ++ x ≡ field_bytes g ++ y → (f ≡ g) × (x ≡ y)
field_unique limits a_byte (byte m) (byte n) x y p q e = (cc, cc)
field_unique limits a_byte (byte m) g x y p q e = absurd q
field_unique limits a_byte f g x y p q e = absurd p
field_unique limits a_short (short m) (short n) x y p q e = let s = same_short m n x y p q e in (ap short s.0, s.1)
field_unique limits a_short (short m) g x y p q e = absurd q
field_unique limits a_short f g x y p q e = absurd p
field_unique limits a_long (long m) (long n) x y p q e = let s = same_long m n x y p q e in (ap long s.0, s.1)
field_unique limits a_long (long m) g x y p q e = absurd q
field_unique limits a_long f g x y p q e = absurd p
field_unique limits a_key (key m) (key n) x y p q e = let s = same_key m n x y e in (ap key s.0, s.1)
field_unique limits a_key (key m) g x y p q e = absurd q
field_unique limits a_key f g x y p q e = absurd p
field_unique limits a_value (value m) (value n) x y p q e = let s = same_value m n x y p.1 q.1 e in (ap value s.0, s.1)
field_unique limits a_value (value m) g x y p q e = absurd q
field_unique limits a_value f g x y p q e = absurd p
field_unique limits an_opt (opt (Some m)) (opt (Some n)) x y p q e = let s = same_value m n x y p.1 q.1 e in (ap (λ (v : List ℕ). opt (Some v)) s.0, s.1)
field_unique limits an_opt (opt (Some m)) (opt None) x y p q e = absurd (value_or_none m x y p.1 e)
field_unique limits an_opt (opt None) (opt (Some n)) x y p q e = absurd (value_or_none n y x q.1 (sym e))
field_unique limits an_opt (opt None) (opt None) x y p q e = (refl, cc)
field_unique limits an_opt (opt m) g x y p q e = absurd q
field_unique limits an_opt f g x y p q e = absurd p

-- bytes begin with fields of these kinds in one way
pub fields_unique : (limits : Limits) (kinds : List Kind) (fs gs : List Field) (x y : List ℕ) → AreFields limits kinds fs → AreFields limits kinds gs → fields_bytes fs ++ x ≡ fields_bytes gs ++ y → (fs ≡ gs) × (x ≡ y)
fields_unique limits [] [] [] x y p q e = (refl, e)
fields_unique limits [] [] (g ∷ gs) x y p q e = absurd q
fields_unique limits [] (f ∷ fs) gs x y p q e = absurd p
fields_unique limits (k ∷ ks) [] gs x y p q e = absurd p
fields_unique limits (k ∷ ks) (f ∷ fs) [] x y p q e = absurd q
fields_unique limits (k ∷ ks) (f ∷ fs) (g ∷ gs) x y p q e =
    let first = field_unique limits k f g (fields_bytes fs ++ x) (fields_bytes gs ++ y) p.0 q.0 (sym (append_assoc (field_bytes f) (fields_bytes fs) x) ∙ e ∙ append_assoc (field_bytes g) (fields_bytes gs) y) in
    let later = fields_unique limits ks fs gs x y p.1 q.1 first.1 in
    (cc, later.1)

-- ---- lists of kinds

pub none_first : (limits : Limits) (kind : Kind) (kinds : List Kind) (bytes : List ℕ) → NoField limits kind bytes → NoFields limits (kind ∷ kinds) bytes
none_first limits kind kinds bytes none [] tail (p, e) = p
none_first limits kind kinds bytes none (f ∷ fs) tail (p, e) = none f (fields_bytes fs ++ tail) (p.0, e ∙ append_assoc (field_bytes f) (fields_bytes fs) tail)

pub none_later : (limits : Limits) (kind : Kind) (kinds : List Kind) (bytes : List ℕ) (field : Field) (rest : List ℕ) → TakesField limits kind bytes field rest → NoFields limits kinds rest → NoFields limits (kind ∷ kinds) bytes
none_later limits kind kinds bytes field rest takes none [] tail (p, e) = p
none_later limits kind kinds bytes field rest takes none (f ∷ fs) tail (p, e) =
    let same = field_unique limits kind field f rest (fields_bytes fs ++ tail) takes.0 p.0 (sym takes.1 ∙ e ∙ append_assoc (field_bytes f) (fields_bytes fs) tail) in
    none fs tail (p.1, same.1)

pub takes_none : (limits : Limits) (bytes : List ℕ) → TakesAll limits [] bytes [] bytes
takes_none limits bytes = (tt, refl)

pub takes_more : (limits : Limits) (kind : Kind) (kinds : List Kind) (bytes : List ℕ) (field : Field) (rest : List ℕ) (fields : List Field) (tail : List ℕ) → TakesField limits kind bytes field rest → TakesAll limits kinds rest fields tail → TakesAll limits (kind ∷ kinds) bytes (field ∷ fields) tail
takes_more limits kind kinds bytes field rest fields tail first later =
    ((first.0, later.0), first.1 ∙ ap (λ (t : List ℕ). field_bytes field ++ t) later.1 ∙ sym (append_assoc (field_bytes field) (fields_bytes fields) tail))

pub takes_one : (limits : Limits) (kind : Kind) (bytes : List ℕ) (field : Field) (tail : List ℕ) → TakesField limits kind bytes field tail → TakesAll limits (kind ∷ []) bytes (field ∷ []) tail
takes_one limits kind bytes field tail first = takes_more limits kind [] bytes field tail [] tail first (takes_none limits tail)

pub takes_two : (limits : Limits) (kind next : Kind) (bytes : List ℕ) (field second : Field) (rest tail : List ℕ) → TakesField limits kind bytes field rest → TakesField limits next rest second tail → TakesAll limits (kind ∷ next ∷ []) bytes (field ∷ second ∷ []) tail
takes_two limits kind next bytes field second rest tail first later = takes_more limits kind (next ∷ []) bytes field rest (second ∷ []) tail first (takes_one limits next rest second tail later)

pub takes_three : (limits : Limits) (kind next last : Kind) (bytes : List ℕ) (field second third : Field) (rest more tail : List ℕ) → TakesField limits kind bytes field rest → TakesField limits next rest second more → TakesField limits last more third tail → TakesAll limits (kind ∷ next ∷ last ∷ []) bytes (field ∷ second ∷ third ∷ []) tail
takes_three limits kind next last bytes field second third rest more tail first later latest = takes_more limits kind (next ∷ last ∷ []) bytes field rest (second ∷ third ∷ []) tail first (takes_two limits next last rest second third more tail later latest)

-- ---- one field

-- a value's limit is below the length that means nothing
pub small_value : (hello : Option Version) → (limits_after hello).value < 65535
small_value None = omega arith
small_value (Some One) = omega arith
small_value (Some Two) = omega arith

-- no field: too few bytes, or too long
pub no_byte : (limits : Limits) (bytes : List ℕ) → bytes ≡ [] → NoField limits a_byte bytes
no_byte limits bytes none (byte n) rest (p, e) = absurd cc
no_byte limits bytes none f rest (p, e) = p

pub no_short : (limits : Limits) (bytes : List ℕ) → length bytes < 2 → NoField limits a_short bytes
no_short limits bytes less (short n) rest (p, e) = let len : length bytes ≡ 2 + length rest = ap length e ∙ omega arith in omega (arith, len, less)
no_short limits bytes less f rest (p, e) = p

pub no_long : (limits : Limits) (bytes : List ℕ) → length bytes < 8 → NoField limits a_long bytes
no_long limits bytes less (long n) rest (p, e) = let len : length bytes ≡ 8 + length rest = ap length e ∙ omega arith in omega (arith, len, less)
no_long limits bytes less f rest (p, e) = p

pub no_key-empty : (limits : Limits) (bytes : List ℕ) → bytes ≡ [] → NoField limits a_key bytes
no_key-empty limits bytes none (key n) rest (p, e) = absurd cc
no_key-empty limits bytes none f rest (p, e) = p

pub no_key : (limits : Limits) (bytes : List ℕ) (n : ℕ) (rest : List ℕ) → bytes ≡ n ∷ rest → (n ≤ 64 → length rest < n) → NoField limits a_key bytes
no_key limits bytes n rest is bad (key k) tail (p, e) =
    let both : n ∷ rest ≡ length k ∷ (k ++ tail) = sym is ∙ e in
    let len : n ≡ length k = cc in
    let rest-is : rest ≡ k ++ tail = cc in
    let less = bad (omega (arith, len, p)) in
    let long : length rest ≡ length k + length tail = ap length rest-is ∙ length-append k tail in
    omega (arith, len, less, long)
no_key limits bytes n rest is bad f tail (p, e) = p

-- a length that no value may have here, or that is longer than the bytes after it
no_bytes : (limits : Limits) (bytes : List ℕ) (n : ℕ) (rest k tail : List ℕ) → TakesField limits a_short bytes (short n) rest → (n ≤ limits.value → length rest < n) → IsValue limits k → bytes ≡ value_bytes k ++ tail → ⊥
no_bytes limits bytes n rest k tail takes bad p e =
    let (len, rest-is) = same_short n (length k) rest (k ++ tail) takes.0 (omega (arith, p.1)) (sym takes.1 ∙ e) in
    let less = bad (omega (arith, len, p.0)) in
    let long : length rest ≡ length k + length tail = ap length rest-is ∙ length-append k tail in
    omega (arith, len, less, long)

pub no_value-short : (limits : Limits) (bytes : List ℕ) → NoField limits a_short bytes → NoField limits a_value bytes
no_value-short limits bytes none (value k) rest (p, e) = none (short (length k)) (k ++ rest) (omega (arith, p.1), e)
no_value-short limits bytes none f rest (p, e) = p

pub no_value : (limits : Limits) (bytes : List ℕ) (n : ℕ) (rest : List ℕ) → TakesField limits a_short bytes (short n) rest → (n ≤ limits.value → length rest < n) → NoField limits a_value bytes
no_value limits bytes n rest takes bad (value k) tail (p, e) = no_bytes limits bytes n rest k tail takes bad p e
no_value limits bytes n rest takes bad f tail (p, e) = p

pub no_opt-short : (limits : Limits) (bytes : List ℕ) → NoField limits a_short bytes → NoField limits an_opt bytes
no_opt-short limits bytes none (opt (Some k)) rest (p, e) = none (short (length k)) (k ++ rest) (omega (arith, p.1), e)
no_opt-short limits bytes none (opt None) rest (p, e) = none (short 65535) rest (omega arith, e)
no_opt-short limits bytes none f rest (p, e) = p

pub no_opt : (limits : Limits) (bytes : List ℕ) (n : ℕ) (rest : List ℕ) → TakesField limits a_short bytes (short n) rest → n ≢ 65535 → (n ≤ limits.value → length rest < n) → NoField limits an_opt bytes
no_opt limits bytes n rest takes present bad (opt (Some k)) tail (p, e) = no_bytes limits bytes n rest k tail takes bad p e
no_opt limits bytes n rest takes present bad (opt None) tail (p, e) =
    let (len, rest-is) = same_short n 65535 rest tail takes.0 (omega arith) (sym takes.1 ∙ e) in
    present len
no_opt limits bytes n rest takes present bad f tail (p, e) = p

-- a value, found after its length
pub value_found : (hello : Option Version) (bytes : List ℕ) (n : ℕ) (rest v x : List ℕ) → TakesField (limits_after hello) a_short bytes (short n) rest → (rest ≡ v ++ x) × (length v ≡ n) × (n ≤ (limits_after hello).value) → IsValue (limits_after hello) v × (bytes ≡ value_bytes v ++ x)
value_found hello bytes n rest v x takes (is, len, limit) = (
  (omega (arith, len, limit), omega (arith, len, limit, small_value hello)),
  takes.1 ∙ rw (is, len) refl,
)

-- four lists after a first one, appended one by one
pub four_behind : (out a b d e : List ℕ) → (((out ++ a) ++ b) ++ d) ++ e ≡ out ++ (a ++ (b ++ (d ++ e)))
four_behind out a b d e = append_assoc ((out ++ a) ++ b) d e ∙ append_assoc (out ++ a) b (d ++ e) ∙ append_assoc out a (b ++ (d ++ e))
