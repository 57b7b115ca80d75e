-- Bounds of AND, OR and XOR.
use Rattle.std.proofs.Common.{◌≡◌, ℕ, zero, suc, ◌+◌, ◌-◌, ◌*◌, ◌/◌, ◌^◌, ◌<◌, ◌≤◌, sym, ap, ◌∙◌, arith}
use Rattle.std.specs.Prelude.{min, max, bit_and, bit_or, bit_xor}
use Rattle.std.specs.Int.Count.{count_leading_zeros}
use Rattle.std.proofs.lemmas.Nat.{and_le_l, and_le_r, leading_length, pow-add, pow_pos, or_lt, xor_lt, le_or_l, le_or_r}
use Rattle.std.proofs.Math.Nat.{div-eq_of_lt-le}
use Rattle.bpf_model.specs.Words.{IsWord}
use Rattle.value_ranges.specs.In.{IsWithinUnsigned}

-- AND is at most either number
pub and_within : (x y b d : ℕ) → IsWord b → x ≤ b → y ≤ d → IsWithinUnsigned (bit_and x y) 0 (min b d)
and_within x y b d n p q =
    let first : bit_and x y ≤ x = and_le_l x y in
    let second : bit_and x y ≤ y = and_le_r x y in
    record { word = omega arith; umin = omega arith; umax = omega arith }

-- 64 ones, with the lowest shifted out
ones_shr : (m c : ℕ) → 0 < m → 0 < c → m * c ≡ 2 ^ 64 → (2 ^ 64 - 1) / m + 1 ≡ c
ones_shr m zero p q e = absurd (omega arith)
ones_shr m (suc k) p q e =
    let whole : k * m + m ≡ 2 ^ 64 = omega (arith, e) in
    let is : (2 ^ 64 - 1) / m ≡ k = div-eq_of_lt-le m (omega arith) (omega arith) in
    rw is (omega arith)

-- 64 ones, shifted by the leading zeros of a number, are at least the number
pub ones_over_is : (n : ℕ) → IsWord n → (k : ℕ) × ((k ≤ 64) × ((n < 2 ^ k) × ((2 ^ 64 - 1) / 2 ^ count_leading_zeros 64 n + 1 ≡ 2 ^ k)))
ones_over_is n h =
    let t = leading_length 64 n h in
    let whole : 2 ^ (count_leading_zeros 64 n + t.0) ≡ 2 ^ 64 = ap (λ e. 2 ^ e) t.1 in
    let parts : 2 ^ (count_leading_zeros 64 n + t.0) ≡ 2 ^ count_leading_zeros 64 n * 2 ^ t.0 = pow-add 2 (count_leading_zeros 64 n) t.0 in
    (t.0, (omega (arith, t.1), (t.2, ones_shr (2 ^ count_leading_zeros 64 n) (2 ^ t.0) (pow_pos (count_leading_zeros 64 n)) (pow_pos t.0) (sym parts ∙ whole))))

-- OR of two numbers below a power of two stays below it
pub or_within : (x y a b c d top : ℕ) → IsWord top → ((k : ℕ) × (top + 1 ≡ 2 ^ k)) → IsWithinUnsigned x a b → IsWithinUnsigned y c d → max b d ≤ top → IsWithinUnsigned (bit_or x y) (max a c) top
or_within x y a b c d top n t p q m =
    let first : x ≤ bit_or x y = le_or_l x y in
    let second : y ≤ bit_or x y = le_or_r x y in
    let below : bit_or x y < 2 ^ t.0 = or_lt t.0 x y (omega (arith, t.1)) (omega (arith, t.1)) in
    record { word = omega (arith, t.1); umin = omega arith; umax = omega (arith, t.1) }

-- so does XOR
pub xor_within : (x y b d top : ℕ) → IsWord top → ((k : ℕ) × (top + 1 ≡ 2 ^ k)) → x ≤ b → y ≤ d → max b d ≤ top → IsWithinUnsigned (bit_xor x y) 0 top
xor_within x y b d top n t p q m =
    let below : bit_xor x y < 2 ^ t.0 = xor_lt t.0 x y (omega (arith, t.1)) (omega (arith, t.1)) in
    record { word = omega (arith, t.1); umin = omega arith; umax = omega (arith, t.1) }
