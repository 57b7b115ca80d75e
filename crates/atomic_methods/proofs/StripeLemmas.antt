-- Numbers of stripes and the test for a power of two.
use Rattle.std.proofs.Common.{◌≡◌, ℕ, zero, suc, ◌-◌, ◌%◌, ◌^◌, ◌<◌, ◌≤◌, Bool, true, false, T, ◌&&◌, cond, refl, sym, subst, ap, ◌∙◌, arith, inl, inr}
use Rattle.std.specs.Prelude.{bit_and, nat_lt, nat_eq}
use Rattle.std.specs.Int.{is_power_of_two}
use Rattle.std.proofs.lemmas.Bool.{cases_eq, cases_lt, eqb-true}
use Rattle.std.proofs.Math.Nat.{pow-le-pow_right, one-le-pow}
use Rattle.bins.proofs.PowersOfTwo.{masked as masked_power}
use Rattle.bins.proofs.SearchLemmas.{both_hold}
use Rattle.atomic_methods.specs.Hashes.{IsStripeCount}

-- a test that holds for each number below a bound
unfoldable all_below : (ℕ → Bool) → ℕ → Bool
all_below test zero = true
all_below test (suc n) = test n && all_below test n

below : (test : ℕ → Bool) (m n : ℕ) → T (all_below test m) → n < m → T (test n)
unfolding all_below
below test zero n h lt = absurd (omega (arith, lt))
below test (suc m) n h lt = elim (cases_eq n m) [
  | inl same ↦ subst (λ (k : ℕ). T (test k)) (sym same) (both_hold _ _ h).0
  | inr other ↦ below test m n (both_hold _ _ h).1 (omega (arith, lt, other))
]

is_true : (b : Bool) → T b → b ≡ true
is_true true h = refl
is_true false h = absurd h

-- the power, of a number up to 64
log : ℕ → ℕ
log n = cond (nat_lt n 2) 0 (cond (nat_lt n 4) 1 (cond (nat_lt n 8) 2 (cond (nat_lt n 16) 3 (cond (nat_lt n 32) 4 (cond (nat_lt n 64) 5 6)))))

agrees : ℕ → Bool
agrees n = cond (is_power_of_two n) (nat_eq n (2 ^ log n)) true

agreed : T (all_below agrees 65)
unfolding all_below agrees log lib.Count.ones
agreed = tt

equal_then : (a : Bool) (x y : ℕ) → a ≡ true → T (cond a (nat_eq x y) true) → x ≡ y
equal_then true x y e h = eqb-true x y (is_true _ h)
equal_then false x y e h = absurd cc

-- a number that passes the test is a power of two
pub counted : (n : ℕ) → n ≤ 64 → is_power_of_two n ≡ true → IsStripeCount n
unfolding agrees
counted n le is = ((log n, equal_then (is_power_of_two n) n (2 ^ log n) is (below agrees 65 n agreed (omega (arith, le)))), le)

passes : ℕ → Bool
passes k = is_power_of_two (2 ^ k)

passed : T (all_below passes 7)
unfolding all_below passes lib.Count.ones
passed = tt

-- and each power of two passes
pub found : (n : ℕ) → IsStripeCount n → is_power_of_two n ≡ true
unfolding passes
found n is = elim (cases_lt is.0.0 7) [
  | inl small ↦ ap is_power_of_two is.0.1 ∙ is_true _ (below passes 7 is.0.0 passed small)
  | inr ge ↦
      let bounded : n ≤ 64 = is.1 in
      let large : 2 ^ 7 ≤ 2 ^ is.0.0 = pow-le-pow_right {n = 2} (omega arith) {i = 7} {j = is.0.0} ge in absurd (omega (arith, large, is.0.1, bounded))
]

-- there is at least one stripe
pub some_stripe : (n : ℕ) → IsStripeCount n → 1 ≤ n
some_stripe n is = let le : 1 ≤ 2 ^ is.0.0 = one-le-pow is.0.0 2 (omega arith) in omega (arith, is.0.1)

-- the lowest bits of a number are its remainder
pub masked : (n h : ℕ) → IsStripeCount n → bit_and h (n - 1) ≡ h % n
masked n h is = masked_power n h is.0
