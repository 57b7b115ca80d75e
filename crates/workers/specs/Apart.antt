-- The effect of calls at the places of a part of a list.
use Rattle.std.specs.Prelude.{◌≡◌, ℕ, ◌+◌, ◌<◌, List, length, slice_index_or}

-- P holds of each element at its place; the part begins at the place `base`
abbrev pub AcceptsFrom : {X : Type 0} → (ℕ → X → Type 0) → ℕ → List X → Type 0
AcceptsFrom P base xs = (k : ℕ) (d : _) → k < length xs → P (base + k) (slice_index_or xs k d)

-- R holds of each element before and after
pub record ChangesFrom {X : Type 0} (R : ℕ → X → X → Type 0) (base : ℕ) (xs ys : List X) : Type 0 where
  pub len : length ys ≡ length xs
  pub each : (k : ℕ) (d : X) → k < length xs → R (base + k) (slice_index_or xs k d) (slice_index_or ys k d)
