-- Powers of two: the numbers that their masks give.
use Rattle.std.proofs.Common.{◌≡◌, ℕ, ◌-◌, ◌%◌}
use Rattle.std.specs.Prelude.{bit_and}
use Rattle.std.specs.Int.{IsPowerOfTwo}
use Rattle.std.proofs.lemmas.Nat.{and_mask}

-- the lowest bits of a number are its remainder
pub masked : (n h : ℕ) → IsPowerOfTwo n → bit_and h (n - 1) ≡ h % n
masked n h is = rw is.1 (and_mask h is.0)
