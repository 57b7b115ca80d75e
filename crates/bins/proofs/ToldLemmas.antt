-- The reported number of bins: a power of two.
use Rattle.std.proofs.Common.{◌≡◌, ℕ, ◌+◌, ◌*◌, ◌^◌, ◌<◌, ◌≤◌, ap, ◌∙◌, arith, inl, inr}
use Rattle.std.proofs.lemmas.Bool.{cases_lt}
use Rattle.std.proofs.Math.Nat.{pow-le-pow_right}
use Rattle.std.proofs.lemmas.Nat.{pow-add}
use Rattle.bins.specs.Told.{IsBinCount}

-- twice the bins, if they are fewer than the most
pub twice_bins : (bins : ℕ) → IsBinCount bins → bins < 65536 → IsBinCount (2 * bins)
twice_bins bins is bounded = elim (cases_lt is.0.0 16) [
  | inl small ↦
      let most : 2 ^ is.0.0 ≤ 2 ^ 15 = pow-le-pow_right {n = 2} (omega arith) {i = is.0.0} {j = 15} (omega (arith, small)) in
      ((is.0.0 + 1, ap (λ (n : ℕ). 2 * n) is.0.1 ∙ twice_power is.0.0), omega (arith, is.1), omega (arith, most, is.0.1))
  | inr ge ↦ let large : 2 ^ 16 ≤ 2 ^ is.0.0 = pow-le-pow_right {n = 2} (omega arith) {i = 16} {j = is.0.0} ge in absurd (omega (arith, large, is.0.1, bounded))
]
  where
    twice_power : (k : ℕ) → 2 * 2 ^ k ≡ 2 ^ (k + 1)
    twice_power k = omega (arith, pow-add 2 k 1)
