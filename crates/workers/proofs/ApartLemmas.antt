-- A list taken apart into its first element and the rest.
use Rattle.std.proofs.Common.{◌≡◌, ℕ, zero, suc, ◌+◌, ◌<◌, List, [], ◌∷◌, ◌++◌, length, get_or, ap, subst, arith}
use Rattle.workers.specs.Apart.{AcceptsFrom, ChangesFrom}

-- a fact about all holds of the rest, at its places
pub accepts_rest : {X : Type 0} → (P : ℕ → X → Type 0) (base : ℕ) (xs first rest : List X) → xs ≡ first ++ rest → length first ≡ 1 → AcceptsFrom P base xs → AcceptsFrom P (base + 1) rest
accepts_rest P base xs [] rest whole one accepts = absurd (omega (arith, one))
accepts_rest P base xs (x ∷ []) rest whole one accepts = λ k d low.
    let many = ap length whole in
    let here : P (base + suc k) (get_or (x ∷ rest) (suc k) d) = subst (λ (ys : List _). P (base + suc k) (get_or ys (suc k) d)) whole (accepts (suc k) d (omega (arith, low, many))) in
    subst (λ m. P m (get_or rest k d)) (omega arith) here
accepts_rest P base xs (x ∷ y ∷ first) rest whole one accepts = absurd (omega (arith, one))

-- the change of the first element and that of the rest make up the change of all
pub changes_both : {X : Type 0} → (R : ℕ → X → X → Type 0) (base : ℕ) (first rest first_after rest_after : List X) → length first ≡ 1
    → ChangesFrom R base first first_after → ChangesFrom R (base + 1) rest rest_after → ChangesFrom R base (first ++ rest) (first_after ++ rest_after)
changes_both R base [] rest first_after rest_after one front back = absurd (omega (arith, one))
changes_both R base (x ∷ y ∷ first) rest first_after rest_after one front back = absurd (omega (arith, one))
changes_both R base (x ∷ []) rest [] rest_after one front back = absurd (let len = front.len in omega (arith, len))
changes_both R base (x ∷ []) rest (y ∷ z ∷ first_after) rest_after one front back = absurd (let len = front.len in omega (arith, len))
changes_both R base (x ∷ []) rest (y ∷ []) rest_after one front back = record { len = ap suc back.len; each = each }
  where
    each : (k : ℕ) (d : _) → k < length (x ∷ rest) → R (base + k) (get_or (x ∷ rest) k d) (get_or (y ∷ rest_after) k d)
    each zero d low = front.each zero d (omega arith)
    each (suc k) d low = subst (λ m. R m (get_or rest k d) (get_or rest_after k d)) (omega arith) (back.each k d (omega (arith, low)))
