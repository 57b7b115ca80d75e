-- Bounds of extended and reordered words.
use Rattle.std.proofs.Common.{◌≡◌, ℕ, ◌-◌, ◌%◌, ◌^◌, ◌<◌, ◌≤◌, ap, arith, ℤ, pos, negsuc}
use Rattle.std.specs.Prelude.{◌+ℤ◌, ◌≤ℤ◌, FitsSigned}
use Rattle.std.specs.Int.{Width as IntWidth, w8, w16, w32, w64, cast_signed}
use Rattle.std.specs.Int.Signed.{mag}
use mir.Val.{bits, hbits}
use mir.ValLaws.{pow-bits}
use Rattle.std.proofs.lemmas.Int.{ints, to_z_pos}
use Rattle.std.proofs.lemmas.Nat.{mod_below, pow_pos}
use Rattle.std.proofs.Math.Facts.{sfits_to_z}
use Rattle.std.proofs.Math.Nat.{mod-eq_of_lt}
use Rattle.bpf_model.specs.declared.operations.Width.{Width}
use Rattle.bpf_model.specs.declared.operations.Width.TheVariants.{W64}
use Rattle.bpf_model.specs.declared.operations.SignExtension.{SignExtension}
use Rattle.bpf_model.specs.declared.operations.SignExtension.TheVariants.{From8To32, From16To32, From8To64, From16To64, From32To64}
use Rattle.bpf_model.specs.Arithmetic.{modulus, wrapped, extended, low_signed, extension_width, extension_bits}
use Rattle.bpf_model.specs.Words.{IsWord}
use Rattle.value_ranges.specs.In.{IsWithinSigned}
use Rattle.bpf_model.proofs.SignedLemmas.{modulus_some, wrapped_below, wrapped_signed}

-- only the low part of a word counts
extended_part : (e : SignExtension) (x : ℕ) → IsWord x → extended e (x % modulus (extension_width e)) ≡ extended e x
unfolding extended
extended_part From8To32 x h = ap (λ l. wrapped (2 ^ 32) (cast_signed w8 l)) (omega arith)
extended_part From16To32 x h = ap (λ l. wrapped (2 ^ 32) (cast_signed w16 l)) (omega arith)
extended_part From8To64 x h = ap (extended From8To64) (mod-eq_of_lt h)
extended_part From16To64 x h = ap (extended From16To64) (mod-eq_of_lt h)
extended_part From32To64 x h = ap (extended From32To64) (mod-eq_of_lt h)

pub extended_low : (e : SignExtension) (width : Width) (x : ℕ) → width ≡ extension_width e → IsWord x → extended e (x % modulus width) ≡ extended e x
extended_low e width x is h = rw is (extended_part e x h)

-- a number with a clear sign bit stays
small_stays : (w : IntWidth) (m x : ℕ) → x < 2 ^ hbits w → 2 ^ bits w ≤ m → wrapped m (cast_signed w (x % 2 ^ bits w)) ≡ x
small_stays w m x h p =
    let low : x % 2 ^ bits w ≡ x = mod-eq_of_lt (omega (arith, h, pow-bits w)) in
    rw (low, to_z_pos w x h) (mod-eq_of_lt (omega (arith, h, p, pow-bits w)))

pub extended_small : (e : SignExtension) (x : ℕ) → x < 2 ^ (extension_bits e - 1) → extended e x ≡ x
unfolding extended
extended_small From8To32 x h = small_stays w8 (2 ^ 32) x h (omega arith)
extended_small From16To32 x h = small_stays w16 (2 ^ 32) x h (omega arith)
extended_small From8To64 x h = small_stays w8 (2 ^ 64) x h (omega arith)
extended_small From16To64 x h = small_stays w16 (2 ^ 64) x h (omega arith)
extended_small From32To64 x h = small_stays w32 (2 ^ 64) x h (omega arith)

-- the result is a number of its width
pub extended_below : (e : SignExtension) (width : Width) (x : ℕ) → extension_width e ≡ width → extended e x < modulus width
unfolding extended
extended_below e width x is = rw (← is) (wrapped_below (modulus (extension_width e)) (low_signed e x) (modulus_some (extension_width e)))

-- the low bits read as a number of this many bits
pub read_fits : (w : IntWidth) (x : ℕ) → mag (cast_signed w (x % 2 ^ bits w)) < 2 ^ hbits w
read_fits w x = let fits : FitsSigned w (cast_signed w (x % 2 ^ bits w)) = sfits_to_z (record { fits = mod_below x (2 ^ bits w) (pow_pos (bits w)) }) in fits.sfits

low_fits : (e : SignExtension) (x : ℕ) → mag (low_signed e x) < 2 ^ (extension_bits e - 1)
low_fits From8To32 x = read_fits w8 x
low_fits From16To32 x = read_fits w16 x
low_fits From8To64 x = read_fits w8 x
low_fits From16To64 x = read_fits w16 x
low_fits From32To64 x = read_fits w32 x

half_bound : (e : SignExtension) → 2 ^ (extension_bits e - 1) ≤ 2 ^ 31
half_bound From8To32 = omega arith
half_bound From16To32 = omega arith
half_bound From8To64 = omega arith
half_bound From16To64 = omega arith
half_bound From32To64 = omega arith

between : (z lo hi : ℤ) (h : ℕ) → mag z < h → lo +ℤ pos h ≡ pos 0 → hi +ℤ pos 1 ≡ pos h → (lo ≤ℤ z) × (z ≤ℤ hi)
between (pos n) lo hi h p e f = (omega (arith, ints), omega (arith, ints))
between (negsuc n) lo hi h p e f = (omega (arith, ints), omega (arith, ints))

-- the word of a number from -h to h - 1 reads as that number
pub word_within : (z lo hi : ℤ) (h : ℕ) → mag z < h → h ≤ 2 ^ 31 → lo +ℤ pos h ≡ pos 0 → hi +ℤ pos 1 ≡ pos h → IsWithinSigned (wrapped (2 ^ 64) z) lo hi
word_within z lo hi h p q e f =
    let fits : FitsSigned w64 z = record { sfits = omega (arith, p, q) } in
    let b = between z lo hi h p e f in
    record { word = wrapped_below (2 ^ 64) z (omega arith); smin = rw (wrapped_signed z fits) b.0; smax = rw (wrapped_signed z fits) b.1 }

-- at 64 bits its signed reading is one of the bits that were read
pub extended_within : (e : SignExtension) (x : ℕ) (lo hi : ℤ) → extension_width e ≡ W64 → lo +ℤ pos (2 ^ (extension_bits e - 1)) ≡ pos 0 → hi +ℤ pos 1 ≡ pos (2 ^ (extension_bits e - 1)) → IsWithinSigned (extended e x) lo hi
unfolding extended
extended_within e x lo hi is low high = rw is (word_within (low_signed e x) lo hi (2 ^ (extension_bits e - 1)) (low_fits e x) (half_bound e) low high)
