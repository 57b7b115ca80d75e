-- Fronts of a stream whose later bytes have not come yet.
use Rattle.std.specs.Prelude.{◌≡◌, ◌≢◌, ◌≤◌, ℕ, Bool, true, false, List, [], ◌∷◌, ◌++◌, length, All}

-- the bytes are a proper front of such a text
abbrev pub IsFrontOf : (List ℕ → Type 0) → List ℕ → Type 0
IsFrontOf Text bytes = (more : List ℕ) × ((1 ≤ length more) × Text (bytes ++ more))

-- whatever follows the bytes, no such text begins them
abbrev pub NeverBegins : (List ℕ → Type 0) → List ℕ → Type 0
NeverBegins Text bytes = (more text rest : List ℕ) → Text text → bytes ++ more ≢ text ++ rest

-- nothing, or first a byte of this kind
abbrev pub StopsAt : (ℕ → Bool) → List ℕ → Type 0
StopsAt is [] = Unit {0}
StopsAt is (b ∷ bytes) = is b ≡ true

-- no byte is of this kind
abbrev pub HasNo : (ℕ → Bool) → List ℕ → Type 0
HasNo is bytes = All (λ b. is b ≡ false) bytes
