-- Widths, signed readings, and the words of signed numbers.
use Rattle.std.proofs.Common.{◌≡◌, ℕ, suc, ◌+◌, ◌-◌, ◌%◌, ◌^◌, ◌<◌, ◌≤◌, inl, inr, arith, ℤ, pos, negsuc}
use Rattle.std.specs.Prelude.{◌+ℤ◌, FitsSigned}
use Rattle.std.specs.Int.{w64}
use Rattle.std.proofs.lemmas.Int.{ints, to_z_pos, to_z-of_z}
use Rattle.std.proofs.lemmas.Bool.{cases_lt}
use Rattle.std.proofs.lemmas.Bool.Decides.{nat_tests}
use Rattle.std.proofs.lemmas.Nat.{mod_below}
use Rattle.bpf_model.specs.declared.operations.Width.{Width}
use Rattle.bpf_model.specs.declared.operations.Width.TheVariants.{W32, W64}
use Rattle.bpf_model.specs.Arithmetic.{modulus, wrapped}
use Rattle.bpf_model.specs.Words.{IsWord, signed}

pub modulus_most : (width : Width) → modulus width ≤ 2 ^ 64
modulus_most W32 = omega arith
modulus_most W64 = omega arith

pub modulus_some : (width : Width) → 0 < modulus width
modulus_some W32 = omega arith
modulus_some W64 = omega arith

-- the signed reading as a linear fact
pub biased : (w : ℕ) → IsWord w → signed w +ℤ pos (2 ^ 63) ≡ pos ((w + 2 ^ 63) % 2 ^ 64)
biased w h = elim (cases_lt w (2 ^ 63)) [ inl t ↦ omega (arith, ints, to_z_pos w64 w t) | inr t ↦ grind (arith, ints, nat_tests) ]

-- for the lower half of the words it is the word itself
pub signed_small : (w : ℕ) → w < 2 ^ 63 → signed w ≡ pos w
signed_small w h = to_z_pos w64 w h

pub wrapped_below : (m : ℕ) (z : ℤ) → 0 < m → wrapped m z < m
wrapped_below m (pos n) h = mod_below n m h
wrapped_below m (negsuc n) h = omega arith

-- the word that stands for a signed number reads as it
pub wrapped_signed : (z : ℤ) → FitsSigned w64 z → signed (wrapped (2 ^ 64) z) ≡ z
wrapped_signed (pos n) f =
    let same : n % 2 ^ 64 ≡ n = omega (arith, f.sfits) in
    rw same (to_z-of_z w64 (pos n) f)
wrapped_signed (negsuc n) f =
    let same : 2 ^ 64 - 1 - n % 2 ^ 64 ≡ 2 ^ 64 - suc n = omega (arith, f.sfits) in
    rw same (to_z-of_z w64 (negsuc n) f)
