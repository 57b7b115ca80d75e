-- Fronts of bytes up to a byte of a kind.
use Rattle.std.proofs.Common.{arith, ◌≡◌, ◌≢◌, ℕ, ◌≤◌, Option, None, Some, Result, Ok, Err, IfOk, IfNone, IfSome, Bool, true, false, List, [], ◌∷◌, ◌++◌, length, drop, refl, ◌==◌, sym, ap, ◌∙◌}
use Rattle.std.proofs.lemmas.Bool.Decides.{nat_tests}
use Rattle.std.proofs.lemmas.List.Elements.{All-head, All-tail}
use Rattle.resp.specs.Streams.{IsFrontOf, NeverBegins, StopsAt, HasNo}
use Rattle.resp.specs.Grammar.{newline, IsNewline}

pub true_or_false : (b : Bool) → b ≡ true → b ≡ false → ⊥
true_or_false true is not = absurd cc
true_or_false false is not = absurd cc

pub heads : (a b : ℕ) (x y : List ℕ) → a ∷ x ≡ b ∷ y → a ≡ b
heads a b x y e = cc

pub tails : (a b : ℕ) (x y : List ℕ) → a ∷ x ≡ b ∷ y → x ≡ y
tails a b x y e = ap (λ (t : List ℕ). drop 1 t) e

-- what has none of the kind, before what stops, begins with all bytes that have none
pub front_goes_on : (is : ℕ → Bool) (a x b y : List ℕ) → HasNo is a → StopsAt is y → a ++ x ≡ b ++ y → (more : List ℕ) × (b ≡ a ++ more)
front_goes_on is [] x b y none stops e = (b, refl)
front_goes_on is (c ∷ a) x [] [] none stops e = absurd cc
front_goes_on is (c ∷ a) x [] (d ∷ y) none stops e =
    absurd (true_or_false (is c) (ap is (heads c d (a ++ x) y e) ∙ stops) (All-head (λ n. is n ≡ false) c a none))
front_goes_on is (c ∷ a) x (d ∷ b) y none stops e =
    let (more, same) = front_goes_on is a x b y (All-tail (λ n. is n ≡ false) c a none) stops (tails c d (a ++ x) (b ++ y) e) in
    (more, ap (λ (n : ℕ). n ∷ b) (sym (heads c d (a ++ x) (b ++ y) e)) ∙ ap (λ (t : List ℕ). c ∷ t) same)

-- bytes are cut in one way
pub one_cut : (is : ℕ → Bool) (a x b y : List ℕ) → HasNo is a → StopsAt is x → HasNo is b → StopsAt is y → a ++ x ≡ b ++ y → (a ≡ b) × (x ≡ y)
one_cut is [] x [] y none stops other ends e = (refl, e)
one_cut is [] [] (d ∷ b) y none stops other ends e = absurd cc
one_cut is [] (c ∷ x) (d ∷ b) y none stops other ends e =
    absurd (true_or_false (is d) (ap is (sym (heads c d x (b ++ y) e)) ∙ stops) (All-head (λ n. is n ≡ false) d b other))
one_cut is (c ∷ a) x [] [] none stops other ends e = absurd cc
one_cut is (c ∷ a) x [] (d ∷ y) none stops other ends e =
    absurd (true_or_false (is c) (ap is (heads c d (a ++ x) y e) ∙ ends) (All-head (λ n. is n ≡ false) c a none))
one_cut is (c ∷ a) x (d ∷ b) y none stops other ends e =
    let (same, rest) = one_cut is a x b y (All-tail (λ n. is n ≡ false) c a none) stops (All-tail (λ n. is n ≡ false) d b other) ends (tails c d (a ++ x) (b ++ y) e) in
    (ap (λ (n : ℕ). n ∷ a) (heads c d (a ++ x) (b ++ y) e) ∙ ap (λ (t : List ℕ). d ∷ t) same, rest)

-- two fronts of one length are one
pub front_is : (a b x y : List ℕ) → length a ≡ length b → a ++ x ≡ b ++ y → (a ≡ b) × (x ≡ y)
front_is [] [] x y len e = (refl, e)
front_is [] (b ∷ bs) x y len e = absurd (omega (arith, len))
front_is (a ∷ more) [] x y len e = absurd (omega (arith, len))
front_is (a ∷ more) (b ∷ bs) x y len e =
    let (same, left) = front_is more bs x y (omega (arith, len)) (tails a b (more ++ x) (bs ++ y) e) in
    (ap (λ (h : ℕ). h ∷ more) (heads a b (more ++ x) (bs ++ y) e) ∙ ap (λ (t : List ℕ). b ∷ t) same, left)

-- what holds anyway holds of an answer
pub if_none : {A : Type 0} (r : Option A) (Q : Type 0) → Q → IfNone r Q
if_none None Q q = q
if_none (Some x) Q q = tt

-- empty bytes, and others
pub empty_is : (bytes : List ℕ) → (length bytes == 0) ≡ true → bytes ≡ []
empty_is [] none = refl
empty_is (b ∷ bytes) none = absurd (grind (arith, nat_tests, none))

pub not_empty : (bytes : List ℕ) → (length bytes == 0) ≡ false → 1 ≤ length bytes
not_empty [] some = absurd cc
not_empty (b ∷ bytes) some = omega arith

pub empty_list : {A : Type 0} (xs : List A) (n : ℕ) → n ≡ length xs → (n == 0) ≡ true → xs ≡ []
empty_list [] n len none = refl
empty_list (x ∷ xs) n len none = absurd (grind (arith, nat_tests, len, none))

pub some_list : {A : Type 0} (xs : List A) (n : ℕ) → n ≡ length xs → (n == 0) ≡ false → 1 ≤ length xs
some_list [] n len some = absurd (grind (arith, nat_tests, len, some))
some_list (x ∷ xs) n len some = omega arith

-- ends of lines
pub no_end : (bytes : List ℕ) → 1 ≤ length bytes → ((rest : List ℕ) → bytes ≢ 13 ∷ rest) → NeverBegins IsNewline bytes
no_end [] some none more text rest is e = absurd (omega (arith, some))
no_end (b ∷ bytes) some none more text rest is e =
    none bytes (ap (λ (n : ℕ). n ∷ bytes) (heads b 13 (bytes ++ more) (10 ∷ rest) (e ∙ ap (λ (t : List ℕ). t ++ rest) is)))

pub no_second : (bytes tail : List ℕ) → bytes ≡ 13 ∷ tail → 1 ≤ length tail → ((rest : List ℕ) → tail ≢ 10 ∷ rest) → NeverBegins IsNewline bytes
no_second bytes [] first some none more text rest is e = absurd (omega (arith, some))
no_second bytes (b ∷ tail) first some none more text rest is e =
    let whole : 13 ∷ ((b ∷ tail) ++ more) ≡ 13 ∷ 10 ∷ rest = ap (λ (t : List ℕ). t ++ more) (sym first) ∙ e ∙ ap (λ (t : List ℕ). t ++ rest) is in
    none tail (ap (λ (n : ℕ). n ∷ tail) (heads b 10 (tail ++ more) rest (tails 13 13 ((b ∷ tail) ++ more) (10 ∷ rest) whole)))

pub second_to_come : (bytes tail : List ℕ) → bytes ≡ 13 ∷ tail → tail ≡ [] → IsFrontOf IsNewline bytes
second_to_come bytes tail first none = (10 ∷ [], (omega arith, ap (λ (t : List ℕ). t ++ 10 ∷ []) first ∙ ap (λ (t : List ℕ). 13 ∷ (t ++ 10 ∷ [])) none))

pub both_to_come : (bytes : List ℕ) → bytes ≡ [] → IsFrontOf IsNewline bytes
both_to_come bytes none = (newline, (omega arith, ap (λ (t : List ℕ). t ++ newline) none))

pub if_some : {A : Type 0} (r : Option A) (P Q : A → Type 0) → ((x : A) → P x → Q x) → IfSome r P → IfSome r Q
if_some None P Q f h = tt
if_some (Some x) P Q f h = f x h

pub if_no : {A : Type 0} (r : Option A) (P Q : Type 0) → (P → Q) → IfNone r P → IfNone r Q
if_no None P Q f h = f h
if_no (Some x) P Q f h = tt

pub if_ok_no : {A E : Type 0} (r : Result (Option A) E) (P Q : Type 0) → (P → Q) → IfOk r (λ read. IfNone read P) → IfOk r (λ read. IfNone read Q)
if_ok_no (Ok read) P Q f h = if_no read P Q f h
if_ok_no (Err e) P Q f h = tt
