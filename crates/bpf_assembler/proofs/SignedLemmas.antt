-- Numbers with a sign.
use Rattle.std.proofs.Common.{◌≡◌, ℕ, zero, suc, ◌+◌, ◌^◌, ◌<◌, refl, ap, arith, w32, to_z, of_z}
use Rattle.std.specs.Prelude.{pos, negsuc, ◌-ℤ◌, FitsSigned}
use Rattle.std.proofs.Math.Facts.{to_z_pos}
use Rattle.std.proofs.lemmas.Int.{to_z-of_z}

less_than_zero : (m : ℕ) → negsuc 0 -ℤ pos m ≡ negsuc m
less_than_zero zero = refl
less_than_zero (suc k) = let e : 0 + k ≡ k = omega arith in ap (λ j. negsuc (suc j)) e

-- the negation of a small number, less one
pub negated : (m : ℕ) → m < 2 ^ 31 → to_z w32 (of_z w32 (negsuc 0 -ℤ to_z w32 m)) ≡ negsuc m
negated m small =
    let fits : FitsSigned w32 (negsuc m) = record { sfits = omega arith } in
    let plain : to_z w32 m ≡ pos m = to_z_pos w32 small in
    rw (plain, less_than_zero m) (to_z-of_z w32 (negsuc m) fits)
