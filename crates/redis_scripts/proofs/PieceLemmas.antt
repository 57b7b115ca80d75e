-- Cutting a text at its first separator.
use Rattle.std.proofs.Common.{◌≡◌, ◌≢◌, ◌∙◌, sym, ◌⊎◌, Bool, codes, ℕ, zero, suc, ◌+◌, ◌<◌, ◌≤◌, List, [], ◌∷◌, length, take, drop, get_or, refl, ap, arith, true, false, inl, inr}
use Rattle.std.specs.Prelude.{nat_eq, Option, Some, None, is_some, option_copied}
use Rattle.std.specs.Borrow.{Bor}
use Rattle.bpf_model.proofs.Options.{test_of}
use Rattle.redis_scripts.specs.Pieces.{pieces, pieces_after, onto_first}
use Rattle.redis_scripts.specs.Heads.{now_words}

-- the separator is first at this place
pub pieces-at : (separator : ℕ) (text : List ℕ) (place : ℕ) → place < length text → nat_eq (get_or text place 0) separator ≡ true → ((k : ℕ) → k < place → nat_eq (get_or text k 0) separator ≡ false)
    → pieces separator text ≡ take place text ∷ pieces separator (drop (suc place) text)
unfolding pieces
pieces-at separator [] place inside here before = absurd (omega (arith, inside))
pieces-at separator (c ∷ cs) zero inside here before = rw here refl
pieces-at separator (c ∷ cs) (suc place) inside here before =
    let other : nat_eq c separator ≡ false = before 0 (omega arith) in
    let later = pieces-at separator cs place (omega (arith, inside)) here (λ k h. before (suc k) (omega (arith, h))) in
    rw (other, later) refl

-- the separator isn't there
pub pieces-whole : (separator : ℕ) (text : List ℕ) → ((k : ℕ) → k < length text → nat_eq (get_or text k 0) separator ≡ false) → pieces separator text ≡ text ∷ []
unfolding pieces
pieces-whole separator [] none = refl
pieces-whole separator (c ∷ cs) none =
    let other : nat_eq c separator ≡ false = none 0 (omega arith) in
    let later = pieces-whole separator cs (λ k h. none (suc k) (omega (arith, h))) in
    rw (other, later) refl

-- there are no more pieces than bytes and one
pub pieces-count : (separator : ℕ) (text : List ℕ) → length (pieces separator text) ≤ length text + 1
unfolding pieces
pieces-count separator [] = omega arith
pieces-count separator (c ∷ cs) = elim (test_of (nat_eq c separator)) [
  | inl e ↦ rw e (omega (arith, pieces-count separator cs))
  | inr e ↦ rw e (omega (arith, pieces-count separator cs, length-onto_first c (pieces separator cs)))
]
  where
    length-onto_first : (c : ℕ) (ps : List (List ℕ)) → length (onto_first c ps) ≤ length ps + 1
    length-onto_first c [] = omega arith
    length-onto_first c (p ∷ ps) = omega arith

-- there is one at least
some_piece : (separator : ℕ) (text : List ℕ) → 1 ≤ length (pieces separator text)
unfolding pieces
some_piece separator [] = omega arith
some_piece separator (c ∷ cs) = elim (test_of (nat_eq c separator)) [
  | inl e ↦ rw e (omega arith)
  | inr e ↦ rw e (length-onto_first c (pieces separator cs))
]
  where
    length-onto_first : (c : ℕ) (ps : List (List ℕ)) → 1 ≤ length (onto_first c ps)
    length-onto_first c [] = omega arith
    length-onto_first c (p ∷ ps) = omega arith

pub pieces_after-some : (separator : ℕ) (rest : Option (Bor (List ℕ))) → is_some rest ≡ true → pieces_after separator (option_copied rest) ≡ [] → ⊥
pieces_after-some separator None is none = absurd cc
pieces_after-some separator (Some text) is none = omega (arith, some_piece separator text.now, ap length none)

-- words are left, but not the one
pub with_now-none : (text word : List ℕ) (rest : Option (Bor (List ℕ))) → pieces 32 text ≡ word ∷ pieces_after 32 (option_copied rest) → (word ≢ codes "with-now") ⊎ (is_some rest ≡ true)
    → (with_now : Bool) → pieces 32 text ≢ now_words with_now
with_now-none text word rest cuts other true same = elim other [
  | inl differs ↦ differs (ap (λ words. get_or words 0 []) (sym cuts ∙ same))
  | inr some ↦ pieces_after-some 32 rest some (ap (drop 1) (sym cuts ∙ same))
]
with_now-none text word rest cuts other false same = absurd cc
