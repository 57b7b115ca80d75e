-- Signed bounds of sums and differences.
use Rattle.std.proofs.Common.{◌≡◌, ℕ, ◌+◌, ◌-◌, ◌%◌, ◌^◌, ◌<◌, SFits, to_z, of_z, arith, ℤ}
use Rattle.std.specs.Prelude.{◌+ℤ◌, ◌-ℤ◌}
use Rattle.std.specs.Int.{w64}
use Rattle.std.proofs.lemmas.Int.{ints, to_z-of_z}
use Rattle.value_ranges.specs.In.{IsWithinSigned}
use Rattle.bpf_model.proofs.SignedLemmas.{biased}

-- if both sums of bounds fit, they bound the sum
pub sum_within : (x y : ℕ) (a b c d lo hi : ℤ) → IsWithinSigned x a b → IsWithinSigned y c d → lo ≡ a +ℤ c → hi ≡ b +ℤ d → SFits w64 lo → SFits w64 hi → IsWithinSigned ((x + y) % 2 ^ 64) lo hi
sum_within x y a b c d lo hi p q e f g h =
    let word : (x + y) % 2 ^ 64 < 2 ^ 64 = omega arith in
    let i = biased x p.word in let j = biased y q.word in let k = biased ((x + y) % 2 ^ 64) word in
    record { word = word; smin = omega (arith, ints); smax = omega (arith, ints) }

-- if both differences fit, they bound the difference
pub difference_within : (x y : ℕ) (a b c d lo hi : ℤ) → IsWithinSigned x a b → IsWithinSigned y c d → lo ≡ a -ℤ d → hi ≡ b -ℤ c → SFits w64 lo → SFits w64 hi → IsWithinSigned ((x + (2 ^ 64 - y)) % 2 ^ 64) lo hi
difference_within x y a b c d lo hi p q e f g h =
    let word : (x + (2 ^ 64 - y)) % 2 ^ 64 < 2 ^ 64 = omega arith in
    let i = biased x p.word in let j = biased y q.word in let k = biased ((x + (2 ^ 64 - y)) % 2 ^ 64) word in
    record { word = word; smin = omega (arith, ints); smax = omega (arith, ints) }

-- bounds that fit are read unchanged
pub read_within : (w : ℕ) (lo hi a b : ℤ) → (lo ≡ a) × SFits w64 a → (hi ≡ b) × SFits w64 b → (SFits w64 lo → SFits w64 hi → IsWithinSigned w lo hi) → IsWithinSigned w (to_z w64 (of_z w64 lo)) (to_z w64 (of_z w64 hi))
read_within w lo hi a b low high within =
    let f : SFits w64 lo = rw low.0 low.1 in
    let g : SFits w64 hi = rw high.0 high.1 in
    rw (to_z-of_z w64 lo f, to_z-of_z w64 hi g) (within f g)
