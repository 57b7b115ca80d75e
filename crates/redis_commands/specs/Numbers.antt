-- Numbers as Redis reads them: a canonical decimal text, with no plus and no needless zero.
use Rattle.std.specs.Prelude.{ℕ, ◌^◌, Bool, ◌&&◌, List, Option, Some, None, ℤ, pos, negsuc, nat_lt, bytes_eq, decimal, if◌then◌else◌}
use Rattle.std.specs.Fmt.{signed_decimal}
use Rattle.std.specs.Str.Parse.{digits_value, signed_digits_value, without_leading_plus}

-- a number of 64 bits; `negsuc n` is -(n + 1)
abbrev pub fits_64 : ℤ → Bool
fits_64 (pos n) = nat_lt n (2 ^ 63)
fits_64 (negsuc n) = nat_lt n (2 ^ 63)

abbrev pub fits_32 : ℤ → Bool
fits_32 (pos n) = nat_lt n (2 ^ 31)
fits_32 (negsuc n) = nat_lt n (2 ^ 31)

-- the signed number of 64 bits whose decimal text this is
abbrev pub integer_of : List ℕ → Option ℤ
integer_of text =
    let n = signed_digits_value 10 text in
    if fits_64 n && bytes_eq (signed_decimal n) text then Some n else None

-- the unsigned number of 64 bits whose decimal text this is
abbrev pub natural_of : List ℕ → Option ℕ
natural_of text =
    let n = digits_value 10 (without_leading_plus text) in
    if nat_lt n (2 ^ 64) && bytes_eq (decimal n) text then Some n else None
