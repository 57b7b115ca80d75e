-- The text that `{:+}` writes.
use Rattle.std.proofs.Common.{◌≡◌, ℕ, suc, ◌-◌, List, [], ◌∷◌, length, ap, arith, true, false, ltb}
use Rattle.std.specs.Prelude.{ℤ, pos, negsuc, decimal}
use Rattle.std.specs.Fmt.{format_spec, styled_signed_decimal, padded_integral, char_count}
use Rattle.std.proofs.lemmas.Bool.{le-ltb}
use Rattle.std.proofs.lemmas.List.{append-nil}
use Rattle.bpf_assembler.specs.Text.{offset}

-- without a width nothing is padded
plus_alone : (digits : List ℕ) → padded_integral (format_spec 32 0 1 0 18446744073709551615) false [] digits ≡ 43 ∷ digits
unfolding padded_integral
plus_alone digits =
    let none : 0 - length digits ≡ 0 = omega arith in
    let after : 0 - char_count [] - (0 - char_count []) ≡ 0 = omega arith in
    let before : 0 - char_count [] ≡ 0 = omega arith in
    rw (none, after, before) (ap (λ l. 43 ∷ l) (append-nil digits))

minus_alone : (digits : List ℕ) → padded_integral (format_spec 32 0 1 0 18446744073709551615) true [] digits ≡ 45 ∷ digits
unfolding padded_integral
minus_alone digits =
    let none : 0 - length digits ≡ 0 = omega arith in
    let after : 0 - char_count [] - (0 - char_count []) ≡ 0 = omega arith in
    let before : 0 - char_count [] ≡ 0 = omega arith in
    rw (none, after, before) (ap (λ l. 45 ∷ l) (append-nil digits))

-- a number with its sign
pub styled_with_sign : (z : ℤ) → styled_signed_decimal (format_spec 32 0 1 0 18446744073709551615) z ≡ offset z
styled_with_sign (pos n) = let least : ltb n 0 ≡ false = le-ltb n 0 (omega arith) in rw least (plus_alone (decimal n))
styled_with_sign (negsuc n) = minus_alone (decimal (suc n))
