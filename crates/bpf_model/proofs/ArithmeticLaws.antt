-- Results of arithmetic fit their width, and quotients and remainders belong together.
use Rattle.std.proofs.Common.{◌≡◌, ◌≢◌, ℕ, zero, suc, ◌+◌, ◌-◌, ◌*◌, ◌/◌, ◌%◌, ◌^◌, ◌<◌, ◌≤◌, false, true, refl, sym, ap, ◌∙◌, ℤ, pos, negsuc, arith, inl, inr}
use Rattle.std.specs.Prelude.{nat_eq, nat_lt, int_div, int_rem, ◌+ℤ◌, ◌*ℤ◌, ◌≤ℤ◌, FitsSigned, unsigned_abs, neg_ℤ}
use Rattle.std.specs.Int.{Width as IntWidth, w8, w16, w32, w64, cast_signed, cast_unsigned, int_wrap, int_shr}
use mir.Val.{bits, hbits}
use mir.ValLaws.{pow-bits}
use lib.Signed.{mag_rem, mag_shr}
use Rattle.std.proofs.lemmas.Bool.{cond_both, cases_Bool}
use Rattle.std.proofs.lemmas.Bool.Decides.{nat_tests}
use Rattle.std.proofs.lemmas.Nat.{mod_below, or_lt, xor_lt, and_le_l, shr_le}
use Rattle.std.proofs.lemmas.Int.{ints, to_z-of_z, of_z-to_z, wrapping_add-bits, wrapping_mul-bits, int_wrap-mul_left, int_wrap-add_left, int_wrap-add_right, int_wrap_fits, quot-rem, rem_below, fits_signed_from_abs}
use Rattle.std.proofs.Math.Facts.{sfits_to_z}
use Rattle.std.proofs.Math.Nat.{mod-le, div-le_self, div-lt_self, div-one, mod-eq_of_lt, zero-mod}
use Rattle.bpf_model.proofs.SignedLemmas.{modulus_some, wrapped_below}
use Rattle.bpf_model.specs.declared.operations.AluOp.{AluOp}
use Rattle.bpf_model.specs.declared.operations.AluOp.TheVariants.{Add, Mul, Div, SDiv, Or, And, Rsh, Mod, SMod, Xor}
use Rattle.bpf_model.specs.declared.operations.Width.{Width}
use Rattle.bpf_model.specs.declared.operations.Width.TheVariants.{W32, W64}
use Rattle.bpf_model.specs.declared.operations.SignExtension.{SignExtension}
use Rattle.bpf_model.specs.declared.operations.SignExtension.TheVariants.{From8To32, From16To32, From8To64, From16To64, From32To64}
use Rattle.bpf_model.specs.Arithmetic.{bits_of, modulus, signed_at, wrapped, signed_quotient, signed_remainder, signed_right, low_value, alu_value, negated, mov_value, extension_width, extension_bits, low_signed, extended, IsLeastByMinusOne}

-- a modulus is a power of two
modulus_is : (width : Width) → modulus width ≡ 2 ^ bits_of width
modulus_is W32 = refl
modulus_is W64 = refl

-- a number modulo a width is a number of the width
pub low_below : (width : Width) (n : ℕ) → n % modulus width < modulus width
low_below width n = mod_below n (modulus width) (modulus_some width)

pub signed_right_below : (width : Width) (x y : ℕ) → signed_right width x y < modulus width
unfolding signed_right
signed_right_below width x y = wrapped_below (modulus width) (int_shr (signed_at width x) (y % bits_of width)) (modulus_some width)

-- an operation on numbers of a width gives a number of the width
pub low_value_below : (op : AluOp) (width : Width) (x y : ℕ) → x < modulus width → y < modulus width → low_value op width x y < modulus width
low_value_below Div width x y p q = cond_both (nat_eq y 0) 0 (x / y) (λ n. n < modulus width) (λ e. modulus_some width) (λ e. omega (arith, p, div-le_self x y))
low_value_below SDiv width x y p q = cond_both (nat_eq y 0) 0 _ (λ n. n < modulus width) (λ e. modulus_some width) (λ e. wrapped_below (modulus width) (int_div (signed_at width x) (signed_at width y)) (modulus_some width))
low_value_below Or W32 x y p q = or_lt 32 x y p q
low_value_below Or W64 x y p q = or_lt 64 x y p q
low_value_below And width x y p q = omega (arith, p, and_le_l x y)
low_value_below Rsh width x y p q = omega (arith, p, shr_le x (y % bits_of width))
low_value_below Mod width x y p q = cond_both (nat_eq y 0) x (x % y) (λ n. n < modulus width) (λ e. p) (λ e. omega (arith, p, mod-le x y))
low_value_below SMod width x y p q = cond_both (nat_eq y 0) x _ (λ n. n < modulus width) (λ e. p) (λ e. wrapped_below (modulus width) (int_rem (signed_at width x) (signed_at width y)) (modulus_some width))
low_value_below Xor W32 x y p q = xor_lt 32 x y p q
low_value_below Xor W64 x y p q = xor_lt 64 x y p q
low_value_below op width x y p q = search (low_below, signed_right_below)

pub alu_value_below : (op : AluOp) (width : Width) (x y : ℕ) → alu_value op width x y < modulus width
alu_value_below op width x y = low_value_below op width (x % modulus width) (y % modulus width) (low_below width x) (low_below width y)

pub negated_below : (width : Width) (x : ℕ) → negated width x < modulus width
negated_below width x = low_below width (0 + (modulus width - x % modulus width))

pub extended_below : (extension : SignExtension) (x : ℕ) → extended extension x < modulus (extension_width extension)
unfolding extended
extended_below extension x = wrapped_below (modulus (extension_width extension)) (low_signed extension x) (modulus_some (extension_width extension))

-- the low bits of an extension are those that were extended
pub extended_again : (extension : SignExtension) (x : ℕ) → extended extension (extended extension x) ≡ extended extension x
unfolding extended
extended_again From8To32 x = ap (λ l. wrapped (2 ^ 32) (cast_signed w8 l)) (grind (arith, nat_tests))
extended_again From16To32 x = ap (λ l. wrapped (2 ^ 32) (cast_signed w16 l)) (grind (arith, nat_tests))
extended_again From8To64 x = ap (λ l. wrapped (2 ^ 64) (cast_signed w8 l)) (grind (arith, nat_tests))
extended_again From16To64 x = ap (λ l. wrapped (2 ^ 64) (cast_signed w16 l)) (grind (arith, nat_tests))
extended_again From32To64 x = ap (λ l. wrapped (2 ^ 64) (cast_signed w32 l)) (grind (arith, nat_tests))

-- only the low bits count
pub extended_low : (extension : SignExtension) (x : ℕ) → extended extension (x % 2 ^ extension_bits extension) ≡ extended extension x
unfolding extended
extended_low From8To32 x = ap (λ l. wrapped (2 ^ 32) (cast_signed w8 l)) (omega arith)
extended_low From16To32 x = ap (λ l. wrapped (2 ^ 32) (cast_signed w16 l)) (omega arith)
extended_low From8To64 x = ap (λ l. wrapped (2 ^ 64) (cast_signed w8 l)) (omega arith)
extended_low From16To64 x = ap (λ l. wrapped (2 ^ 64) (cast_signed w16 l)) (omega arith)
extended_low From32To64 x = ap (λ l. wrapped (2 ^ 64) (cast_signed w32 l)) (omega arith)

-- the number that stands for an integer modulo a power of two reads as the integer wrapped round
wrapped_reads : (w : IntWidth) (z : ℤ) → cast_signed w (wrapped (2 ^ bits w) z) ≡ int_wrap w z
unfolding int_wrap
wrapped_reads w (pos n) = refl
wrapped_reads w (negsuc n) = refl

-- a signed number fits its own bits
cast_wrapped : (w : IntWidth) (z : ℤ) → FitsSigned w z → cast_unsigned w z ≡ wrapped (2 ^ bits w) z
cast_wrapped w (pos n) f = sym (mod-eq_of_lt (omega (arith, f.sfits, pow-bits w)))
cast_wrapped w (negsuc n) f = let small : n % 2 ^ bits w ≡ n = mod-eq_of_lt (omega (arith, f.sfits, pow-bits w)) in omega (arith, small)

-- and so does its shift to the right, as the machine does it
pub shifted_bits : (w : IntWidth) (x k : ℕ) (z : ℤ) → x < 2 ^ bits w → z ≡ cast_signed w x
    → cast_unsigned w (cast_signed w (cast_unsigned w (int_shr (cast_signed w (cast_unsigned w z)) k))) ≡ wrapped (2 ^ bits w) (int_shr (cast_signed w x) k)
shifted_bits w x k z p e =
    let read : FitsSigned w (cast_signed w x) = sfits_to_z (record { fits = p }) in
    let shifted : FitsSigned w (int_shr (cast_signed w x) k) = record { sfits = omega (arith, mag_shr (cast_signed w x) (2 ^ k), read.sfits) } in
    rw (e, to_z-of_z w (cast_signed w x) read, to_z-of_z w (int_shr (cast_signed w x) k) shifted) (cast_wrapped w (int_shr (cast_signed w x) k) shifted)

-- quotient times divisor plus remainder is the dividend, modulo the width
divided_again : (w : IntWidth) (x y : ℕ) → x < 2 ^ bits w → y < 2 ^ bits w
    → ((wrapped (2 ^ bits w) (int_div (cast_signed w x) (cast_signed w y)) * y) % 2 ^ bits w + wrapped (2 ^ bits w) (int_rem (cast_signed w x) (cast_signed w y))) % 2 ^ bits w ≡ x
divided_again w x y p q =
    let m = 2 ^ bits w in
    let first = cast_signed w x in
    let second = cast_signed w y in
    let quotient = int_div first second in
    let remainder = int_rem first second in
    let some : 0 < m = omega (arith, p) in
    let is_quotient = wrapped_below m quotient some in
    let is_remainder = wrapped_below m remainder some in
    let is_product : (wrapped m quotient * y) % m < m = mod_below (wrapped m quotient * y) m some in
    let is_sum : ((wrapped m quotient * y) % m + wrapped m remainder) % m < m = mod_below _ m some in
    let product : cast_signed w ((wrapped m quotient * y) % m) ≡ int_wrap w (quotient *ℤ second) =
    wrapping_mul-bits w (wrapped m quotient) y is_quotient q ∙ ap (λ (z : ℤ). int_wrap w (z *ℤ second)) (wrapped_reads w quotient) ∙ int_wrap-mul_left w quotient second in
    let sum : cast_signed w (((wrapped m quotient * y) % m + wrapped m remainder) % m) ≡ int_wrap w (int_wrap w (quotient *ℤ second) +ℤ int_wrap w remainder) =
    wrapping_add-bits w ((wrapped m quotient * y) % m) (wrapped m remainder) is_product is_remainder
    ∙ ap (λ (z : ℤ). int_wrap w (z +ℤ cast_signed w (wrapped m remainder))) product
    ∙ ap (λ (z : ℤ). int_wrap w (int_wrap w (quotient *ℤ second) +ℤ z)) (wrapped_reads w remainder) in
    let whole : int_wrap w (int_wrap w (quotient *ℤ second) +ℤ int_wrap w remainder) ≡ first =
    int_wrap-add_left w (quotient *ℤ second) (int_wrap w remainder)
    ∙ int_wrap-add_right w (quotient *ℤ second) remainder
    ∙ ap (int_wrap w) (quot-rem first second)
    ∙ int_wrap_fits w first (sfits_to_z (record { fits = p })) in
    sym (of_z-to_z w _ is_sum) ∙ ap (cast_unsigned w) (sum ∙ whole) ∙ of_z-to_z w x p

-- the same for the definitions, if the divisor isn't zero
divided_low : (width : Width) (x y : ℕ) → x < modulus width → y < modulus width → nat_eq y 0 ≡ false
    → ((signed_quotient width x y * y) % modulus width + signed_remainder width x y) % modulus width ≡ x
divided_low W32 x y p q e = rw e (divided_again w32 x y p q)
divided_low W64 x y p q e = rw e (divided_again w64 x y p q)

-- if the divisor is zero, the quotient is 0 and the remainder is the dividend
divided_by_zero : (width : Width) (x y : ℕ) → x < modulus width → nat_eq y 0 ≡ true
    → ((signed_quotient width x y * y) % modulus width + signed_remainder width x y) % modulus width ≡ x
divided_by_zero width x y p e =
    let product : 0 * y ≡ 0 = omega arith in
    let none : 0 % modulus width ≡ 0 = zero-mod (modulus width) in
    let sum : 0 + x ≡ x = omega arith in
    rw (e, product, none, sum) (mod-eq_of_lt p)

-- quotient times divisor plus remainder is the dividend, at both widths
pub signed_division : (width : Width) (x y : ℕ) → alu_value Add width (alu_value Mul width (alu_value SDiv width x y) y) (alu_value SMod width x y) ≡ mov_value width x
signed_division width x y =
    let m = modulus width in
    let low = low_below width x in
    let divisor = low_below width y in
    let quotient : alu_value SDiv width x y % m ≡ alu_value SDiv width x y = mod-eq_of_lt (alu_value_below SDiv width x y) in
    let product : alu_value Mul width (alu_value SDiv width x y) y % m ≡ alu_value Mul width (alu_value SDiv width x y) y = mod-eq_of_lt (alu_value_below Mul width (alu_value SDiv width x y) y) in
    let remainder : alu_value SMod width x y % m ≡ alu_value SMod width x y = mod-eq_of_lt (alu_value_below SMod width x y) in
    let parts : alu_value Add width (alu_value Mul width (alu_value SDiv width x y) y) (alu_value SMod width x y) ≡ (((signed_quotient width (x % m) (y % m)) * (y % m)) % m + signed_remainder width (x % m) (y % m)) % m =
    ap (λ (k : ℕ). (k + alu_value SMod width x y % m) % m) product
    ∙ ap (λ (k : ℕ). (alu_value Mul width (alu_value SDiv width x y) y + k) % m) remainder
    ∙ ap (λ (k : ℕ). ((k * (y % m)) % m + alu_value SMod width x y) % m) quotient in
    parts ∙ elim (cases_Bool (nat_eq (y % m) 0)) [
      | inl e ↦ divided_by_zero width (x % m) (y % m) low e
      | inr e ↦ divided_low width (x % m) (y % m) low divisor e
    ]

not_zero_read : (w : IntWidth) (y : ℕ) → y < 2 ^ bits w → 0 < y → 0 < unsigned_abs (cast_signed w y)
not_zero_read w y p h = cond_both (nat_lt y (2 ^ hbits w)) _ _ (λ z. 0 < unsigned_abs z) (λ e. h) (λ e. omega arith)

-- a remainder needs no wrapping
remainder_reads : (w : IntWidth) (x y : ℕ) → x < 2 ^ bits w → cast_signed w (wrapped (2 ^ bits w) (int_rem (cast_signed w x) (cast_signed w y))) ≡ int_rem (cast_signed w x) (cast_signed w y)
remainder_reads w x y p =
    let first : FitsSigned w (cast_signed w x) = sfits_to_z (record { fits = p }) in
    let less = mag_rem (cast_signed w x) (cast_signed w y) in
    wrapped_reads w (int_rem (cast_signed w x) (cast_signed w y)) ∙ int_wrap_fits w _ (record { sfits = omega (arith, first.sfits, less) })

-- a number fits if the one just below its negation does
fits_signed_to : (w : IntWidth) (n a : ℕ) → FitsSigned w (negsuc a) → n ≤ suc a → FitsSigned w (neg_ℤ (pos n))
fits_signed_to w zero a f h = record { sfits = omega (arith, f.sfits) }
fits_signed_to w (suc n) a f h = record { sfits = omega (arith, f.sfits) }

-- if the divisor is -1, the dividend isn't the least number
not_least : (w : IntWidth) (x y : ℕ) → x < 2 ^ bits w → y < 2 ^ bits w → (y ≡ 2 ^ bits w - 1 → x ≢ 2 ^ hbits w) → cast_signed w y ≡ negsuc 0 → unsigned_abs (cast_signed w x) < 2 ^ hbits w
not_least w x y p q h e =
    let greatest : y ≡ 2 ^ bits w - 1 = sym (of_z-to_z w y q) ∙ ap (cast_unsigned w) e in
    let fewer : x ≢ 2 ^ hbits w = h greatest in
    cond_both (nat_lt x (2 ^ hbits w)) _ _ (λ z. unsigned_abs z < 2 ^ hbits w) (λ t. grind (arith, nat_tests)) (λ t. grind (arith, nat_tests, pow-bits w))

-- a quotient fits, except that of the least number by -1
quotient_fits : (w : IntWidth) (a d : ℤ) → FitsSigned w a → (d ≡ negsuc 0 → unsigned_abs a < 2 ^ hbits w) → FitsSigned w (int_div a d)
quotient_fits w (pos a) (pos d) f h = record { sfits = omega (arith, f.sfits, div-le_self a d) }
quotient_fits w (pos a) (negsuc d) f h = fits_signed_from_abs w _ (omega (arith, ints, f.sfits, div-le_self a (suc d)))
quotient_fits w (negsuc a) (pos d) f h = fits_signed_to w (suc a / d) a f (div-le_self (suc a) d)
quotient_fits w (negsuc a) (negsuc zero) f h = record { sfits = omega (arith, h refl, div-one (suc a)) }
quotient_fits w (negsuc a) (negsuc (suc d)) f h = record { sfits = omega (arith, f.sfits, div-lt_self {n = suc a} {k = suc (suc d)} (omega arith) (omega arith)) }

-- and then needs no wrapping
quotient_reads : (w : IntWidth) (x y : ℕ) → x < 2 ^ bits w → y < 2 ^ bits w → (y ≡ 2 ^ bits w - 1 → x ≢ 2 ^ hbits w)
    → cast_signed w (wrapped (2 ^ bits w) (int_div (cast_signed w x) (cast_signed w y))) ≡ int_div (cast_signed w x) (cast_signed w y)
quotient_reads w x y p q h =
    wrapped_reads w (int_div (cast_signed w x) (cast_signed w y))
    ∙ int_wrap_fits w _ (quotient_fits w (cast_signed w x) (cast_signed w y) (sfits_to_z (record { fits = p })) (not_least w x y p q h))

-- so quotient times divisor plus remainder is the dividend, as integers
divided_exactly : (w : IntWidth) (x y : ℕ) → x < 2 ^ bits w → y < 2 ^ bits w → (y ≡ 2 ^ bits w - 1 → x ≢ 2 ^ hbits w)
    → cast_signed w (wrapped (2 ^ bits w) (int_div (cast_signed w x) (cast_signed w y))) *ℤ cast_signed w y +ℤ cast_signed w (wrapped (2 ^ bits w) (int_rem (cast_signed w x) (cast_signed w y))) ≡ cast_signed w x
divided_exactly w x y p q h = rw (quotient_reads w x y p q h, remainder_reads w x y p) (quot-rem (cast_signed w x) (cast_signed w y))

-- it is nearer to zero than the divisor
remainder_near : (w : IntWidth) (x y : ℕ) → x < 2 ^ bits w → y < 2 ^ bits w → 0 < y → unsigned_abs (cast_signed w (wrapped (2 ^ bits w) (int_rem (cast_signed w x) (cast_signed w y)))) < unsigned_abs (cast_signed w y)
remainder_near w x y p q h = rw (remainder_reads w x y p) (rem_below (cast_signed w x) (cast_signed w y) (not_zero_read w y q h))

not_zero : (y : ℕ) → 0 < y → nat_eq y 0 ≡ false
not_zero y h = grind (arith, nat_tests)

pub signed_division_exact : (width : Width) (x y : ℕ) → 0 < mov_value width y → ¬ (IsLeastByMinusOne width (mov_value width x) (mov_value width y))
    → signed_at width (alu_value SDiv width x y) *ℤ signed_at width (mov_value width y) +ℤ signed_at width (alu_value SMod width x y) ≡ signed_at width (mov_value width x)
signed_division_exact W32 x y h n = rw (not_zero (y % 2 ^ 32) h) (divided_exactly w32 (x % 2 ^ 32) (y % 2 ^ 32) (low_below W32 x) (low_below W32 y) (λ d e. n (e, d)))
signed_division_exact W64 x y h n = rw (not_zero (y % 2 ^ 64) h) (divided_exactly w64 (x % 2 ^ 64) (y % 2 ^ 64) (low_below W64 x) (low_below W64 y) (λ d e. n (e, d)))

pub signed_quotient_by_zero : (width : Width) (x y : ℕ) → mov_value width y ≡ 0 → alu_value SDiv width x y ≡ 0
signed_quotient_by_zero width x y e = rw e refl

-- the least number by -1 is itself, with remainder 0
pub least_by_minus_one : (width : Width) (x y : ℕ) → IsLeastByMinusOne width (mov_value width x) (mov_value width y) → (alu_value SDiv width x y ≡ mov_value width x) × (alu_value SMod width x y ≡ 0)
least_by_minus_one W32 x y e = rw (e.0, e.1) (refl, refl)
least_by_minus_one W64 x y e = rw (e.0, e.1) (refl, refl)

pub signed_remainder_near : (width : Width) (x y : ℕ) → 0 < mov_value width y → unsigned_abs (signed_at width (alu_value SMod width x y)) < unsigned_abs (signed_at width (mov_value width y))
signed_remainder_near W32 x y h = rw (not_zero (y % 2 ^ 32) h) (remainder_near w32 (x % 2 ^ 32) (y % 2 ^ 32) (low_below W32 x) (low_below W32 y) h)
signed_remainder_near W64 x y h = rw (not_zero (y % 2 ^ 64) h) (remainder_near w64 (x % 2 ^ 64) (y % 2 ^ 64) (low_below W64 x) (low_below W64 y) h)

-- and has the dividend's sign, if it isn't zero
rem_not_negative : (a d : ℤ) → pos 0 ≤ℤ a → pos 0 ≤ℤ int_rem a d
rem_not_negative (pos n) d h = omega (arith, ints)
rem_not_negative (negsuc n) d h = absurd (omega (arith, ints))

rem_not_positive : (a d : ℤ) → a ≤ℤ pos 0 → int_rem a d ≤ℤ pos 0
rem_not_positive (pos n) d h =
    let none : n ≡ 0 = omega (arith, ints) in
    rw (none, zero-mod (unsigned_abs d)) (omega (arith, ints))
rem_not_positive (negsuc n) d h = omega (arith, ints)

remainder_not_negative : (w : IntWidth) (x y : ℕ) → x < 2 ^ bits w → pos 0 ≤ℤ cast_signed w x → pos 0 ≤ℤ cast_signed w (wrapped (2 ^ bits w) (int_rem (cast_signed w x) (cast_signed w y)))
remainder_not_negative w x y p h = rw (remainder_reads w x y p) (rem_not_negative (cast_signed w x) (cast_signed w y) h)

remainder_not_positive : (w : IntWidth) (x y : ℕ) → x < 2 ^ bits w → cast_signed w x ≤ℤ pos 0 → cast_signed w (wrapped (2 ^ bits w) (int_rem (cast_signed w x) (cast_signed w y))) ≤ℤ pos 0
remainder_not_positive w x y p h = rw (remainder_reads w x y p) (rem_not_positive (cast_signed w x) (cast_signed w y) h)

pub signed_remainder_not_negative : (width : Width) (x y : ℕ) → pos 0 ≤ℤ signed_at width (mov_value width x) → pos 0 ≤ℤ signed_at width (alu_value SMod width x y)
signed_remainder_not_negative W32 x y h = cond_both (nat_eq (y % 2 ^ 32) 0) (x % 2 ^ 32) _ (λ n. pos 0 ≤ℤ cast_signed w32 n) (λ e. h) (λ e. remainder_not_negative w32 (x % 2 ^ 32) (y % 2 ^ 32) (low_below W32 x) h)
signed_remainder_not_negative W64 x y h = cond_both (nat_eq (y % 2 ^ 64) 0) (x % 2 ^ 64) _ (λ n. pos 0 ≤ℤ cast_signed w64 n) (λ e. h) (λ e. remainder_not_negative w64 (x % 2 ^ 64) (y % 2 ^ 64) (low_below W64 x) h)

pub signed_remainder_not_positive : (width : Width) (x y : ℕ) → signed_at width (mov_value width x) ≤ℤ pos 0 → signed_at width (alu_value SMod width x y) ≤ℤ pos 0
signed_remainder_not_positive W32 x y h = cond_both (nat_eq (y % 2 ^ 32) 0) (x % 2 ^ 32) _ (λ n. cast_signed w32 n ≤ℤ pos 0) (λ e. h) (λ e. remainder_not_positive w32 (x % 2 ^ 32) (y % 2 ^ 32) (low_below W32 x) h)
signed_remainder_not_positive W64 x y h = cond_both (nat_eq (y % 2 ^ 64) 0) (x % 2 ^ 64) _ (λ n. cast_signed w64 n ≤ℤ pos 0) (λ e. h) (λ e. remainder_not_positive w64 (x % 2 ^ 64) (y % 2 ^ 64) (low_below W64 x) h)
