-- Internal: edges of ranges, if there are any. This verifier's own.
use Rattle.std.specs.Prelude.{ℕ, ◌≤◌, ℤ, ◌≤ℤ◌, Option, Some, None}
use Rattle.bpf_model.specs.Words.{signed}

-- a number from the edge on; none if there is no edge
abbrev pub IsFrom : ℕ → Option ℕ → Type 0
IsFrom x None = ⊥
IsFrom x (Some low) = low ≤ x

-- a number up to the edge
abbrev pub IsUpTo : ℕ → Option ℕ → Type 0
IsUpTo x None = ⊥
IsUpTo x (Some high) = x ≤ high

-- a word whose signed reading is from the edge on
abbrev pub IsSignedFrom : ℕ → Option ℤ → Type 0
IsSignedFrom x None = ⊥
IsSignedFrom x (Some low) = low ≤ℤ signed x

-- a word whose signed reading is up to the edge
abbrev pub IsSignedUpTo : ℕ → Option ℤ → Type 0
IsSignedUpTo x None = ⊥
IsSignedUpTo x (Some high) = signed x ≤ℤ high
