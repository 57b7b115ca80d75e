-- The bin that a hash goes to, and how one more bin changes it.
use Rattle.std.proofs.Common.{◌≡◌, ◌≢◌, ℕ, zero, suc, ◌+◌, ◌-◌, ◌*◌, ◌/◌, ◌%◌, ◌^◌, ◌<◌, ◌≤◌, cond, sym, ap, ◌∙◌, arith, inl, inr}
use Rattle.std.specs.Prelude.{nat_lt, bit_and}
use Rattle.std.specs.Int.{IsPowerOfTwo}
use Rattle.std.proofs.lemmas.Bool.{cases_lt}
use Rattle.std.proofs.lemmas.Bool.Decides.{nat_tests}
use Rattle.std.proofs.lemmas.Nat.{pow-add, mod-pow-add}
use Rattle.bins.specs.Chains.{AreSpread, bin_of}
use Rattle.bins.proofs.PowersOfTwo.{masked}

-- the bin that a remainder gives
abbrev bin_at : ℕ → ℕ → ℕ → ℕ
bin_at half bins rest = cond (nat_lt rest bins) rest (rest - half)

at_low : (half bins rest : ℕ) → rest < bins → bin_at half bins rest ≡ rest
at_low half bins rest lt = grind (arith, nat_tests)

at_high : (half bins rest : ℕ) → bins ≤ rest → bin_at half bins rest ≡ rest - half
at_high half bins rest le = grind (arith, nat_tests)

-- each hash has a bin
pub bin_within : (half bins hash : ℕ) → AreSpread half bins → bin_of half bins hash < bins
unfolding bin_of
bin_within half bins hash is =
    let rest : hash % (2 * half) < 2 * half = omega (arith, is.some) in
    elim (cases_lt (hash % (2 * half)) bins) [
      | inl lt ↦ omega (arith, lt, at_low half bins (hash % (2 * half)) lt)
      | inr ge ↦ omega (arith, rest, is.least, at_high half bins (hash % (2 * half)) ge)
    ]

pub twice_power : (half : ℕ) → IsPowerOfTwo half → IsPowerOfTwo (2 * half)
twice_power half is = (is.0 + 1, omega (arith, is.1, pow-add 2 is.0 1))

pub masked_twice : (half hash : ℕ) → IsPowerOfTwo half → bit_and hash (2 * half - 1) ≡ hash % (2 * half)
masked_twice half hash is = masked (2 * half) hash (twice_power half is)

pub bin_low : (half bins hash rest : ℕ) → rest ≡ hash % (2 * half) → rest < bins → rest ≡ bin_of half bins hash
unfolding bin_of
bin_low half bins hash rest e lt = e ∙ sym (at_low half bins (hash % (2 * half)) (omega (arith, e, lt)))

pub bin_high : (half bins hash rest : ℕ) → rest ≡ hash % (2 * half) → bins ≤ rest → rest - half ≡ bin_of half bins hash
unfolding bin_of
bin_high half bins hash rest e le = ap (λ (n : ℕ). n - half) e ∙ sym (at_high half bins (hash % (2 * half)) (omega (arith, e, le)))

-- one more bin: only one bin has hashes that go to it
module _ (half bins : ℕ) (is : AreSpread half bins) (few : bins < 2 * half) where
  pub bin_same : (hash : ℕ) → bin_of half bins hash ≢ bins - half → bin_of half (bins + 1) hash ≡ bin_of half bins hash
  unfolding bin_of
  bin_same hash other =
      let rest : ℕ = hash % (2 * half) in
      elim (cases_lt rest bins) [
        | inl lt ↦ at_low half (bins + 1) rest (omega (arith, lt)) ∙ sym (at_low half bins rest lt)
        | inr ge ↦ elim (cases_lt bins rest) [
          | inl more ↦ at_high half (bins + 1) rest (omega (arith, more)) ∙ sym (at_high half bins rest ge)
          | inr le ↦ absurd (other (let e = at_high half bins rest ge in omega (arith, ge, le, e)))
        ]
      ]

  pub bin_parted : (hash : ℕ) → bin_of half bins hash ≡ bins - half → bin_of half (bins + 1) hash ≢ bins → bin_of half (bins + 1) hash ≡ bins - half
  unfolding bin_of
  bin_parted hash e other =
      let rest : ℕ = hash % (2 * half) in
      elim (cases_lt rest bins) [
        | inl lt ↦ at_low half (bins + 1) rest (omega (arith, lt)) ∙ sym (at_low half bins rest lt) ∙ e
        | inr ge ↦ elim (cases_lt bins rest) [
          | inl more ↦ let was = at_high half bins rest ge in absurd (omega (arith, more, was, e, is.least))
          | inr le ↦ absurd (other (let now = at_low half (bins + 1) rest (omega (arith, le)) in omega (arith, ge, le, now)))
        ]
      ]

-- a remainder by twice the number has one more bit
joined : (bit low high half bins : ℕ) → high ≡ bit * (2 * half) + low → bins ≡ 2 * half → low < 2 * half → bit < 2 → low ≡ bin_at bins bins high
joined zero low high half bins split e below one = let same : high ≡ low = omega (arith, split) in same_of low high bins same (omega (arith, below, e))
  where
    same_of : (low high bins : ℕ) → high ≡ low → low < bins → low ≡ bin_at bins bins high
    same_of low high bins same lt = sym same ∙ sym (at_low bins bins high (omega (arith, same, lt)))
joined (suc zero) low high half bins split e below one = let more : bins ≤ high = omega (arith, split, e) in let less : low ≡ high - bins = omega (arith, split, e) in less ∙ sym (at_high bins bins high more)
joined (suc (suc bit)) low high half bins split e below one = absurd (omega (arith, one))

-- twice the half gives the same for as many bins
pub bin_doubled : (half bins hash : ℕ) → IsPowerOfTwo half → 0 < half → bins ≡ 2 * half → bin_of half bins hash ≡ bin_of bins bins hash
unfolding bin_of
bin_doubled half bins hash is pos e =
    let low : ℕ = hash % (2 * half) in
    let high : ℕ = hash % (2 * bins) in
    let power : half ≡ 2 ^ is.0 = is.1 in
    let twice : 2 ^ (is.0 + 1) ≡ 2 * half = omega (arith, pow-add 2 is.0 1, power) in
    let four : 2 ^ (1 + (is.0 + 1)) ≡ 2 * bins = omega (arith, pow-add 2 1 (is.0 + 1), twice, e) in
    let bit : ℕ = hash / 2 ^ (is.0 + 1) % 2 ^ 1 in
    let split : high ≡ bit * (2 * half) + low = ap (λ (n : ℕ). hash % n) (sym four) ∙ mod-pow-add hash 1 (is.0 + 1) ∙ ap (λ (n : ℕ). bit * n + hash % n) twice in
    let below : low < 2 * half = omega (arith, pos) in
    let one : bit < 2 = omega arith in
    at_low half bins low (omega (arith, below, e)) ∙ joined bit low high half bins split e below one
