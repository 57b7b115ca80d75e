-- Which words lie in a range, and which pairs in two; from `IsBetween` on internal. This verifier's own.
use Rattle.std.specs.Prelude.{◌≡◌, ℕ, ◌≤◌, ℤ, pos, ◌≤ℤ◌, Option, Some, None, Bool, IsTrue}
use Rattle.bpf_model.specs.Words.{IsWord, signed}
use Rattle.value_ranges.specs.declared.range.Range.{Range}
use Rattle.value_ranges.specs.declared.bounds.Bounds.{Bounds}

-- a word whose unsigned reading lies within these bounds
pub record IsWithinUnsigned (w low high : ℕ) : Type 0 where
  pub word : IsWord w
  pub umin : low ≤ w
  pub umax : w ≤ high

-- a word whose signed reading lies within these bounds
pub record IsWithinSigned (w : ℕ) (low high : ℤ) : Type 0 where
  pub word : IsWord w
  pub smin : low ≤ℤ signed w
  pub smax : signed w ≤ℤ high

-- a word whose readings lie within both
pub record IsWithinBoth (w low high : ℕ) (signed_low signed_high : ℤ) : Type 0 where
  pub word : IsWord w
  pub umin : low ≤ w
  pub umax : w ≤ high
  pub smin : signed_low ≤ℤ signed w
  pub smax : signed w ≤ℤ signed_high

abbrev pub IsIn : ℕ → Range → Type 0
IsIn w r = IsWithinBoth w r.umin r.umax r.smin r.smax

-- if there is no range, no word is in it
abbrev pub IsInSome : ℕ → Option Range → Type 0
IsInSome w None = ⊥
IsInSome w (Some r) = IsIn w r

abbrev pub AreInSome : ℕ → ℕ → Option (Range × Range) → Type 0
AreInSome x y None = ⊥
AreInSome x y (Some p) = IsIn x p.0 × IsIn y p.1

-- no pair of words of the two ranges is lost for which the test is true
abbrev pub KeepsPairs : (ℕ → ℕ → Bool) → Range → Range → Option (Range × Range) → Type 0
KeepsPairs test a b answer = (x y : ℕ) → IsIn x a → IsIn y b → IsTrue (test x y) → AreInSome x y answer

-- a range of one word: all four bounds are its readings
pub record IsSingle (r : Range) (w : ℕ) : Type 0 where
  pub umin : r.umin ≡ w
  pub umax : r.umax ≡ w
  pub smin : r.smin ≡ signed w
  pub smax : r.smax ≡ signed w

-- signed bounds from 0 to m
pub record IsSignedUpToMask (r : Range) (m : ℕ) : Type 0 where
  pub smin : pos 0 ≤ℤ r.smin
  pub smax : r.smax ≤ℤ pos m

-- a word whose unsigned reading lies from the first bound to the second
abbrev pub IsBetween : ℕ → ℕ × ℕ → Type 0
IsBetween w bounds = IsWithinUnsigned w bounds.0 bounds.1

-- a word whose signed reading does
abbrev pub IsSignedBetween : ℕ → ℤ × ℤ → Type 0
IsSignedBetween w bounds = IsWithinSigned w bounds.0 bounds.1

abbrev pub IsWithin : ℕ → Bounds → Type 0
IsWithin w b = IsWithinBoth w b.umin b.umax b.smin b.smax
