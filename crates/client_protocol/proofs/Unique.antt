-- Bytes have one list and one rest.
use Rattle.std.proofs.Common.{◌≡◌, ℕ, ◌+◌, ◌^◌, ◌<◌, ◌≤◌, inl, inr, arith, Bool, true, false, List, [], ◌∷◌, ◌++◌, length, Option, Some, None, refl, sym, ap, subst, ◌∙◌, append_assoc}
use Rattle.std.specs.Prelude.{nat_eq, if◌then◌else◌}
use Rattle.std.specs.Int.{w32, from_be_bytes}
use Rattle.std.proofs.lemmas.List.{length-append}
use Rattle.std.proofs.lemmas.Nat.{from_be_bytes-to_be_bytes_4}
use Rattle.bpf_model.specs.declared.input.Sizes.{Sizes}
use Rattle.client_protocol.specs.declared.limits.Version.{Version}
use Rattle.client_protocol.specs.declared.limits.Version.TheVariants.{One, Two}
use Rattle.client_protocol.specs.declared.limits.Limits.{Limits}
use Rattle.client_protocol.specs.Requests.{Request}
use Rattle.client_protocol.specs.Requests.Request.{Hello, Register, Get, Put, PutIfAbsent, Remove, RemoveIf, Replace, ReplaceIf, Compute, ComputeIfAbsent, ComputeIfPresent, Merge, Search, ForEach, ReplaceAll, Count}
use Rattle.client_protocol.specs.declared.fault.ProtocolFault.{ProtocolFault}
use Rattle.client_protocol.specs.declared.fault.ProtocolFault.TheVariants.{BadLength, UnknownRequest, BadField, TrailingBytes, WrongVersion}
use Rattle.client_protocol.specs.Bodies.{limits_after, Kind, Field, kinds_of, takes_tail, fields_bytes, AreFields, Body, body_of, body_bytes, IsBody, BodyHas, IsBodyOf, IsUnknown, HasBadField, HasTrailing, hello_after}
use Rattle.client_protocol.specs.Bodies.Field.{byte, short, long, key, value, opt}
use Rattle.client_protocol.specs.Frames.{framed, length_bytes, frame_of, frames_of, IsLength, IsRequest, Follow, IsBeginning, HasBadLength, IsFaulty, Held, Ends, Frames}
use Rattle.client_protocol.specs.Frames.Held.{open_at, failed}
use Rattle.client_protocol.proofs.FieldLaws.{same_split, fields_unique}

-- ---- a body names one request

abbrev later : List Field → List Field
later (f ∷ fields) = fields
later [] = []

abbrev version_of : ℕ → Version
version_of n = if nat_eq n 2 then Two else One

abbrev version_in : List Field → Version
version_in (byte n ∷ fields) = version_of n
version_in fields = One

abbrev short_in : List Field → ℕ
short_in (short n ∷ fields) = n
short_in fields = 0

abbrev long_in : List Field → ℕ
long_in (long n ∷ fields) = n
long_in fields = 0

abbrev key_in : List Field → List ℕ
key_in (key k ∷ fields) = k
key_in fields = []

abbrev value_in : List Field → List ℕ
value_in (value v ∷ fields) = v
value_in fields = []

abbrev opt_in : List Field → Option (List ℕ)
opt_in (opt v ∷ fields) = v
opt_in fields = None

abbrev sizes_in : List Field → Sizes
sizes_in fields = record { key = short_in fields; old = short_in (later fields); arg = short_in (later (later fields)); result = short_in (later (later (later fields))) }

-- the request of a tag with these fields and this tail
abbrev request_with : ℕ → List Field → List ℕ → Request
request_with tag fields tail =
    if nat_eq tag 0x00 then Hello (version_in fields)
    else (if nat_eq tag 0x01 then Register (sizes_in fields) tail
    else (if nat_eq tag 0x10 then Get (key_in fields)
    else (if nat_eq tag 0x11 then Put (key_in fields) (value_in (later fields))
    else (if nat_eq tag 0x12 then PutIfAbsent (key_in fields) (value_in (later fields))
    else (if nat_eq tag 0x13 then Remove (key_in fields)
    else (if nat_eq tag 0x14 then RemoveIf (key_in fields) (value_in (later fields))
    else (if nat_eq tag 0x15 then Replace (key_in fields) (value_in (later fields))
    else (if nat_eq tag 0x16 then ReplaceIf (key_in fields) (value_in (later fields)) (value_in (later (later fields)))
    else (if nat_eq tag 0x17 then Compute (key_in fields) (long_in (later fields)) (opt_in (later (later fields)))
    else (if nat_eq tag 0x18 then ComputeIfAbsent (key_in fields) (long_in (later fields)) (opt_in (later (later fields)))
    else (if nat_eq tag 0x19 then ComputeIfPresent (key_in fields) (long_in (later fields)) (opt_in (later (later fields)))
    else (if nat_eq tag 0x1A then Merge (key_in fields) (value_in (later fields)) (long_in (later (later fields)))
    else (if nat_eq tag 0x20 then Search (long_in fields) (opt_in (later fields)) (long_in (later (later fields)))
    else (if nat_eq tag 0x21 then ForEach (long_in fields) (opt_in (later fields)) (long_in (later (later fields)))
    else (if nat_eq tag 0x22 then ReplaceAll (long_in fields) (opt_in (later fields))
    else Count)))))))))))))))

abbrev pub request_of : Body → Request
request_of b = request_with b.tag b.fields b.tail

pub request_again : (r : Request) → request_of (body_of r) ≡ r
request_again (Hello One) = refl
request_again (Hello Two) = refl
request_again r = refl

one_request : (r q : Request) → body_of r ≡ body_of q → r ≡ q
one_request r q e = sym (request_again r) ∙ ap request_of e ∙ request_again q

-- ---- a body has one meaning

same_some : {A : Type 0} (a b : A) (o p : Option A) → o ≡ p → o ≡ Some a → p ≡ Some b → a ≡ b
same_some a b o p e x y = cc

some_none : {A : Type 0} (a : A) (o : Option A) → o ≡ Some a → o ≡ None → ⊥
some_none a o x y = absurd cc

true_false : (b : Bool) → b ≡ true → b ≡ false → ⊥
true_false b x y = absurd cc

same_head : (m n : ℕ) (x y : List ℕ) → m ∷ x ≡ n ∷ y → (m ≡ n) × (x ≡ y)
same_head m n x y e = (cc, cc)

words : ℕ → List Field → List ℕ → Body
words tag fields tail = record { tag = tag; fields = fields; tail = tail }

-- the same fields, if two bodies are spelled by one list of bytes
same_parts : (limits : Limits) (v w : Body) (k l : List Kind) → kinds_of v.tag ≡ Some k → kinds_of w.tag ≡ Some l → AreFields limits k v.fields → AreFields limits l w.fields → body_bytes v ≡ body_bytes w → (v.tag ≡ w.tag) × (v.fields ≡ w.fields) × (v.tail ≡ w.tail)
same_parts limits v w k l kv kw fv fw e =
    let head = same_head v.tag w.tag (fields_bytes v.fields ++ v.tail) (fields_bytes w.fields ++ w.tail) e in
    let kinds : k ≡ l = same_some k l (kinds_of v.tag) (kinds_of w.tag) (ap kinds_of head.0) kv kw in
    let both = fields_unique limits k v.fields w.fields v.tail w.tail fv (subst (λ (x : List Kind). AreFields limits x w.fields) (sym kinds) fw) head.1 in
    (head.0, both.0, both.1)

same_words : (limits : Limits) (v w : Body) → IsBody limits v → IsBody limits w → body_bytes v ≡ body_bytes w → v ≡ w
unfolding words
same_words limits v w p q e =
    let (t, f, r) = same_parts limits v w p.kinds q.kinds p.known q.known p.fields q.fields e in
    ap (λ (n : ℕ). words n v.fields v.tail) t ∙ ap (λ (x : List Field). words w.tag x v.tail) f ∙ ap (λ (x : List ℕ). words w.tag w.fields x) r

pub same_body : (hello : Option Version) (b : List ℕ) (r q : Request) → IsBodyOf hello b r → IsBodyOf hello b q → r ≡ q
same_body hello b r q x y = one_request r q (same_words (limits_after hello) (body_of r) (body_of q) x.body y.body (sym x.spelled ∙ y.spelled))

-- a body's parts: its tag is known, its fields begin the bytes after it, and no tail is left if there may be none
unknown_words : (limits : Limits) (b : List ℕ) (w : Body) (k : List Kind) → kinds_of w.tag ≡ Some k → b ≡ body_bytes w → IsUnknown b → ⊥
unknown_words limits b w k known spelled u =
    let head = same_head w.tag u.tag (fields_bytes w.fields ++ w.tail) u.rest (sym spelled ∙ u.spelled) in
    some_none k (kinds_of w.tag) known (ap kinds_of head.0 ∙ u.unknown)

bad_words : (limits : Limits) (b : List ℕ) (w : Body) (k : List Kind) → kinds_of w.tag ≡ Some k → AreFields limits k w.fields → b ≡ body_bytes w → HasBadField limits b → ⊥
bad_words limits b w k known fields spelled u =
    let head = same_head w.tag u.tag (fields_bytes w.fields ++ w.tail) u.rest (sym spelled ∙ u.spelled) in
    let kinds : k ≡ u.kinds = same_some k u.kinds (kinds_of w.tag) (kinds_of u.tag) (ap kinds_of head.0) known u.known in
    u.bad w.fields w.tail (subst (λ (x : List Kind). AreFields limits x w.fields) kinds fields, sym head.1)

trailing_words : (limits : Limits) (b : List ℕ) (w : Body) → IsBody limits w → b ≡ body_bytes w → HasTrailing limits b → ⊥
trailing_words limits b w are spelled u =
    let (t, f, r) = same_parts limits w u.body are.kinds u.kinds are.known u.known are.fields u.fields (sym spelled ∙ u.spelled) in
    elim are.tail [
      | inl takes ↦ true_false (takes_tail w.tag) takes (ap takes_tail t ∙ u.no_tail)
      | inr none ↦ let len : length u.body.tail ≡ 0 = ap length (sym r ∙ none) in omega (arith, len, u.trailing)
    ]

unknown_bad : (limits : Limits) (b : List ℕ) → IsUnknown b → HasBadField limits b → ⊥
unknown_bad limits b u v =
    let head = same_head u.tag v.tag u.rest v.rest (sym u.spelled ∙ v.spelled) in
    some_none v.kinds (kinds_of v.tag) v.known (sym (ap kinds_of head.0) ∙ u.unknown)

pub faultless : (hello : Option Version) (b : List ℕ) (r : Request) (fault : ProtocolFault) → IsBodyOf hello b r → BodyHas hello b fault → ⊥
faultless hello b r BadLength x has = has
faultless hello b r UnknownRequest x has = unknown_words (limits_after hello) b (body_of r) x.body.kinds x.body.known x.spelled has
faultless hello b r BadField x has = bad_words (limits_after hello) b (body_of r) x.body.kinds x.body.known x.body.fields x.spelled has
faultless hello b r TrailingBytes x has = trailing_words (limits_after hello) b (body_of r) x.body x.spelled has
faultless hello b r WrongVersion x has = has.misplaced r x.comes (same_words (limits_after hello) (body_of r) has.body x.body has.is (sym x.spelled ∙ has.spelled))

pub same_fault : (hello : Option Version) (b : List ℕ) (f g : ProtocolFault) → BodyHas hello b f → BodyHas hello b g → f ≡ g
same_fault hello b BadLength g x y = absurd x
same_fault hello b UnknownRequest BadLength x y = absurd y
same_fault hello b UnknownRequest UnknownRequest x y = refl
same_fault hello b UnknownRequest BadField x y = absurd (unknown_bad (limits_after hello) b x y)
same_fault hello b UnknownRequest TrailingBytes x y = absurd (unknown_words (limits_after hello) b y.body y.kinds y.known y.spelled x)
same_fault hello b UnknownRequest WrongVersion x y = absurd (unknown_words (limits_after hello) b y.body y.is.kinds y.is.known y.spelled x)
same_fault hello b BadField BadLength x y = absurd y
same_fault hello b BadField UnknownRequest x y = absurd (unknown_bad (limits_after hello) b y x)
same_fault hello b BadField BadField x y = refl
same_fault hello b BadField TrailingBytes x y = absurd (bad_words (limits_after hello) b y.body y.kinds y.known y.fields y.spelled x)
same_fault hello b BadField WrongVersion x y = absurd (bad_words (limits_after hello) b y.body y.is.kinds y.is.known y.is.fields y.spelled x)
same_fault hello b TrailingBytes BadLength x y = absurd y
same_fault hello b TrailingBytes UnknownRequest x y = absurd (unknown_words (limits_after hello) b x.body x.kinds x.known x.spelled y)
same_fault hello b TrailingBytes BadField x y = absurd (bad_words (limits_after hello) b x.body x.kinds x.known x.fields x.spelled y)
same_fault hello b TrailingBytes TrailingBytes x y = refl
same_fault hello b TrailingBytes WrongVersion x y = absurd (trailing_words (limits_after hello) b y.body y.is y.spelled x)
same_fault hello b WrongVersion BadLength x y = absurd y
same_fault hello b WrongVersion UnknownRequest x y = absurd (unknown_words (limits_after hello) b x.body x.is.kinds x.is.known x.spelled y)
same_fault hello b WrongVersion BadField x y = absurd (bad_words (limits_after hello) b x.body x.is.kinds x.is.known x.is.fields x.spelled y)
same_fault hello b WrongVersion TrailingBytes x y = absurd (trailing_words (limits_after hello) b x.body x.is x.spelled y)
same_fault hello b WrongVersion WrongVersion x y = refl

-- ---- bytes begin with one frame

pub same_length : (m n : ℕ) (x y : List ℕ) → m < 2 ^ 32 → n < 2 ^ 32 → length_bytes m ++ x ≡ length_bytes n ++ y → (m ≡ n) × (x ≡ y)
same_length m n x y lm ln e =
    let both = same_split (length_bytes m) (length_bytes n) x y refl e in
    (sym (from_be_bytes-to_be_bytes_4 m lm) ∙ ap (from_be_bytes w32) both.0 ∙ from_be_bytes-to_be_bytes_4 n ln, both.1)

pub allowed_small : (hello : Option Version) (n : ℕ) → IsLength hello n → n < 2 ^ 32
allowed_small None n h = omega (arith, h.1)
allowed_small (Some One) n h = omega (arith, h.1)
allowed_small (Some Two) n h = omega (arith, h.1)

same_frame : (hello : Option Version) (a b x y : List ℕ) → IsLength hello (length a) → IsLength hello (length b) → framed a ++ x ≡ framed b ++ y → (a ≡ b) × (x ≡ y)
same_frame hello a b x y p q e =
    let e2 = sym (append_assoc (length_bytes (length a)) a x) ∙ e ∙ append_assoc (length_bytes (length b)) b y in
    let (len, rest) = same_length (length a) (length b) (a ++ x) (b ++ y) (allowed_small hello (length a) p) (allowed_small hello (length b) q) e2 in
    same_split a b x y len rest

frame_long : (body x : List ℕ) → 4 ≤ length (framed body ++ x)
frame_long body x = let len = length-append (framed body) x in omega (arith, len)

whole_begun : (hello : Option Version) (body x rest : List ℕ) → IsLength hello (length body) → rest ≡ framed body ++ x → IsBeginning hello rest → ⊥
whole_begun hello body x rest p e (inl less) = let len : length rest ≡ length (framed body ++ x) = ap length e in omega (arith, less, len, frame_long body x)
whole_begun hello body x rest p e (inr b) =
    let e2 = sym b.spelled ∙ e ∙ append_assoc (length_bytes (length body)) body x in
    let (len, part) = same_length b.n (length body) b.part (body ++ x) (allowed_small hello b.n b.allowed) (allowed_small hello (length body) p) e2 in
    let longer : length b.part ≡ length body + length x = ap length part ∙ length-append body x in
    omega (arith, len, longer, b.short)

whole_bad : (hello : Option Version) (body x rest : List ℕ) → IsLength hello (length body) → rest ≡ framed body ++ x → HasBadLength hello rest → ⊥
whole_bad hello body x rest p e b =
    let e2 = sym b.spelled ∙ e ∙ append_assoc (length_bytes (length body)) body x in
    let (len, more) = same_length b.n (length body) b.more (body ++ x) b.number (allowed_small hello (length body) p) e2 in
    b.bad (subst (λ (n : ℕ). IsLength hello n) (sym len) p)

frame_frame : (hello : Option Version) (r q : Request) (x y : List ℕ) → IsRequest hello r → IsRequest hello q → frame_of r ++ x ≡ frame_of q ++ y → (r ≡ q) × (x ≡ y)
frame_frame hello r q x y p s e =
    let (same, rest) = same_frame hello (body_bytes (body_of r)) (body_bytes (body_of q)) x y p.allowed s.allowed e in
    (same_body hello (body_bytes (body_of r)) r q p.body (subst (λ (b : List ℕ). IsBodyOf hello b q) (sym same) s.body), rest)

frame_faulty : (hello : Option Version) (r : Request) (x rest : List ℕ) (fault : ProtocolFault) → IsRequest hello r → rest ≡ frame_of r ++ x → IsFaulty hello rest fault → ⊥
frame_faulty hello r x rest fault p e (inl (is, bad)) = whole_bad hello (body_bytes (body_of r)) x rest p.allowed e bad
frame_faulty hello r x rest fault p e (inr b) =
    let (same, more) = same_frame hello (body_bytes (body_of r)) b.body x b.more p.allowed b.allowed (sym e ∙ b.spelled) in
    faultless hello b.body r fault (subst (λ (t : List ℕ). IsBodyOf hello t r) same p.body) b.has

begun_faulty : (hello : Option Version) (rest : List ℕ) (fault : ProtocolFault) → IsBeginning hello rest → IsFaulty hello rest fault → ⊥
begun_faulty hello rest fault begun (inr b) = whole_begun hello b.body b.more rest b.allowed b.spelled begun
begun_faulty hello rest fault (inl less) (inl (is, b)) =
    let len : length rest ≡ 4 + length b.more = ap length b.spelled ∙ omega arith in omega (arith, less, len)
begun_faulty hello rest fault (inr g) (inl (is, b)) =
    let (n-is, more) = same_length g.n b.n g.part b.more (allowed_small hello g.n g.allowed) b.number (sym g.spelled ∙ b.spelled) in
    b.bad (subst (λ (n : ℕ). IsLength hello n) n-is g.allowed)

faulty_faulty : (hello : Option Version) (rest : List ℕ) (f g : ProtocolFault) → IsFaulty hello rest f → IsFaulty hello rest g → f ≡ g
faulty_faulty hello rest f g (inl (x, a)) (inl (y, b)) = x ∙ sym y
faulty_faulty hello rest f g (inl (x, a)) (inr b) = absurd (whole_bad hello b.body b.more rest b.allowed b.spelled a)
faulty_faulty hello rest f g (inr a) (inl (y, b)) = absurd (whole_bad hello a.body a.more rest a.allowed a.spelled b)
faulty_faulty hello rest f g (inr a) (inr b) =
    let (same, more) = same_frame hello a.body b.body a.more b.more a.allowed b.allowed (sym a.spelled ∙ b.spelled) in
    same_fault hello b.body f g (subst (λ (t : List ℕ). BodyHas hello t f) same a.has) b.has

-- ---- the whole

same_end : (after : Option Version) (rest : List ℕ) (a b : Held) → Ends after rest a → Ends after rest b → a ≡ b
same_end after rest (open_at h x) (open_at k y) (p, q, _) (r, s, _) = ap (λ (v : Option Version). open_at v x) (p ∙ sym r) ∙ ap (open_at k) (q ∙ sym s)
same_end after rest (open_at h x) (failed f) (p, q, begun) bad = absurd (begun_faulty after rest f begun bad)
same_end after rest (failed f) (open_at h x) bad (p, q, begun) = absurd (begun_faulty after rest f begun bad)
same_end after rest (failed f) (failed g) a b = ap failed (faulty_faulty after rest f g a b)

no_frame : (hello : Option Version) (r : Request) (x rest : List ℕ) (a : Held) → IsRequest hello r → rest ≡ frame_of r ++ x → Ends hello rest a → ⊥
no_frame hello r x rest (open_at h y) p e (_, _, begun) = whole_begun hello (body_bytes (body_of r)) x rest p.allowed e begun
no_frame hello r x rest (failed f) p e bad = frame_faulty hello r x rest f p e bad

one_list : (hello h k : Option Version) (rs ss : List Request) (x y : List ℕ) (a b : Held) → Follow hello rs h → Follow hello ss k → frames_of rs ++ x ≡ frames_of ss ++ y → Ends h x a → Ends k y b → (rs ≡ ss) × (a ≡ b)
one_list hello h k [] [] x y a b p q e ea eb =
    let eb2 : Ends hello x b = subst (λ (t : List ℕ). Ends hello t b) (sym e) (subst (λ (v : Option Version). Ends v y b) q eb) in
    (refl, same_end hello x a b (subst (λ (v : Option Version). Ends v x a) p ea) eb2)
one_list hello h k [] (s ∷ ss) x y a b p q e ea eb =
    absurd (no_frame hello s (frames_of ss ++ y) x a q.0 (e ∙ append_assoc (frame_of s) (frames_of ss) y) (subst (λ (v : Option Version). Ends v x a) p ea))
one_list hello h k (r ∷ rs) [] x y a b p q e ea eb =
    absurd (no_frame hello r (frames_of rs ++ x) y b p.0 (sym e ∙ append_assoc (frame_of r) (frames_of rs) x) (subst (λ (v : Option Version). Ends v y b) q eb))
one_list hello h k (r ∷ rs) (s ∷ ss) x y a b p q e ea eb =
    let (same, rest) = frame_frame hello r s (frames_of rs ++ x) (frames_of ss ++ y) p.0 q.0 (sym (append_assoc (frame_of r) (frames_of rs) x) ∙ e ∙ append_assoc (frame_of s) (frames_of ss) y) in
    let q2 = subst (λ (t : Request). Follow (hello_after hello t) ss k) (sym same) q.1 in
    let (list, held) = one_list (hello_after hello r) h k rs ss x y a b p.1 q2 rest ea eb in
    (ap (λ (t : Request). t ∷ rs) same ∙ ap (λ (t : List Request). s ∷ t) list, held)

pub one_reading : (hello : Option Version) (bytes : List ℕ) (rs ss : List Request) (a b : Held) → Frames hello bytes rs a → Frames hello bytes ss b → (rs ≡ ss) × (a ≡ b)
one_reading hello bytes rs ss a b f g = one_list hello f.after g.after rs ss f.rest g.rest a b f.follow g.follow (sym f.spelled ∙ g.spelled) f.ends g.ends
