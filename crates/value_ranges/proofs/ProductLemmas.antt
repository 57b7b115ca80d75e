-- Bounds of products, quotients and remainders.
use Rattle.std.proofs.Common.{◌≡◌, ℕ, ◌-◌, ◌*◌, ◌/◌, ◌%◌, ◌^◌, ◌<◌, ◌≤◌, arith}
use Rattle.std.specs.Prelude.{min}
use Rattle.std.proofs.lemmas.Bool.Decides.{nat_tests}
use Rattle.std.proofs.lemmas.Nat.{le-div, mul-le, mod_below}
use Rattle.std.proofs.Math.Nat.{div-mul-le_self, div-le_self, mul-le-mul_left, mod-le, mod-eq_of_lt}
use Rattle.bpf_model.specs.Words.{IsWord}
use Rattle.bpf_model.specs.Arithmetic.{quotient_of, remainder_of}
use Rattle.value_ranges.specs.In.{IsWithinUnsigned}

-- a product that does not wrap round lies between the products of the bounds
pub product_within : (x y a b c d m : ℕ) → m ≤ 2 ^ 64 → IsWithinUnsigned x a b → IsWithinUnsigned y c d → b * d < m → IsWithinUnsigned ((x * y) % m) (a * c) (b * d)
product_within x y a b c d m n p q r =
    let most : x * y ≤ b * d = mul-le x y b d p.umax q.umax in
    let least : a * c ≤ x * y = mul-le a c x y p.umin q.umin in
    let is : (x * y) % m ≡ x * y = mod-eq_of_lt (omega arith) in
    record { word = omega arith; umin = omega arith; umax = omega arith }

-- a quotient grows with the dividend and shrinks with the divisor
pub quotient_most : (x y b c : ℕ) → x ≤ b → 0 < c → c ≤ y → x / y ≤ b / c
quotient_most x y b c p q r =
    let back : x / y * y ≤ x = div-mul-le_self x y in
    let smaller : x / y * c ≤ x / y * y = mul-le-mul_left (x / y) r in
    le-div (x / y) b c q (omega arith)

pub quotient_within : (x y a b c d : ℕ) → IsWord b → IsWithinUnsigned x a b → 0 < c → IsWithinUnsigned y c d → IsWithinUnsigned (quotient_of x y) (a / d) (b / c)
quotient_within x y a b c d n p q r =
    let low : a / d ≤ x / y = quotient_most a d x y p.umin (omega arith) r.umax in
    let high : x / y ≤ b / c = quotient_most x y b c p.umax q r.umin in
    record { word = grind (arith, nat_tests); umin = grind (arith, nat_tests); umax = grind (arith, nat_tests) }

-- also if the divisor may be zero
pub quotient_up_to : (x y b : ℕ) → IsWord b → x ≤ b → IsWithinUnsigned (quotient_of x y) 0 b
quotient_up_to x y b h p =
    let most : x / y ≤ x = div-le_self x y in
    record { word = grind (arith, nat_tests); umin = grind (arith, nat_tests); umax = grind (arith, nat_tests) }

-- a remainder is at most the dividend, and less than the divisor
pub remainder_within : (x y b d : ℕ) → IsWord b → x ≤ b → 0 < y → y ≤ d → IsWithinUnsigned (remainder_of x y) 0 (min b (d - 1))
remainder_within x y b d n p q r =
    let least : x % y ≤ x = mod-le x y in
    let below : x % y < y = mod_below x y q in
    record { word = grind (arith, nat_tests); umin = grind (arith, nat_tests); umax = grind (arith, nat_tests) }

pub remainder_up_to : (x y b : ℕ) → IsWord b → x ≤ b → IsWithinUnsigned (remainder_of x y) 0 b
remainder_up_to x y b h p =
    let most : x % y ≤ x = mod-le x y in
    record { word = grind (arith, nat_tests); umin = grind (arith, nat_tests); umax = grind (arith, nat_tests) }
