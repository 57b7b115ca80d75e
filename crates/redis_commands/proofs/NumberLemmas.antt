-- Numbers and their decimal texts.
use Rattle.std.proofs.Common.{arith, ◌≡◌, ◌≢◌, ℕ, suc, [], ◌∷◌, ◌^◌, ◌==◌, neg_ℤ, ap, ◌∙◌, ◌<◌, Bool, true, false, ◌&&◌, List, Some, None, Result, Err, ℤ, pos, negsuc, FitsSigned, nat_lt, bytes_eq, decimal, refl, sym, subst, if◌then◌else◌}
use Rattle.std.specs.Fmt.{signed_decimal}
use Rattle.std.specs.Int.{w64}
use Rattle.std.specs.Bool.{Decides}
use Rattle.std.specs.Char.{digit_value}
use Rattle.std.specs.Str.{IsUtf8, IsAscii}
use Rattle.std.specs.Str.Parse.{signed_digits_value, digits_value, without_leading_plus, IsNumeral, ParsesUnsigned}
use Rattle.std.proofs.lemmas.Slice.Eq.{bytes_eq-Decides}
use Rattle.std.proofs.lemmas.Str.{IsUtf8-from_ascii}
use Rattle.std.proofs.lemmas.Fmt.{parse-decimal, decimal_is_IsNumeral, IsAscii-decimal}
use Rattle.std.proofs.lemmas.Bool.Decides.{Decides-eqb}
use Rattle.std.proofs.lemmas.Str.Parse.{digit_from_value}
use Rattle.redis_commands.specs.Numbers.{integer_of, natural_of, fits_64}

both : (a b : Bool) → (a && b) ≡ true → (a ≡ true) × (b ≡ true)
both true true e = (refl, refl)
both true false e = absurd cc
both false b e = absurd cc

refused : {A : Type 0} (b : Bool) (n : A) → (b ≡ true → ⊥) → (if b then Some n else None) ≡ None
refused true n no_way = absurd (no_way refl)
refused false n no_way = refl

fits : (n : ℤ) → fits_64 n ≡ true → FitsSigned w64 n
fits (pos n) e = record { sfits = grind (arith, e) }
fits (negsuc n) e = record { sfits = grind (arith, e) }

-- no number has the text
pub integer_none : (text : List ℕ) → ((n : ℤ) → FitsSigned w64 n → text ≢ signed_decimal n) → integer_of text ≡ None
integer_none text none =
    let n = signed_digits_value 10 text in
    refused (fits_64 n && bytes_eq (signed_decimal n) text) n
    (λ e. let parts = both (fits_64 n) (bytes_eq (signed_decimal n) text) e in
    none n (fits n parts.0) (sym ((bytes_eq-Decides (signed_decimal n) text).0 parts.1)))

-- a digit is no sign
no_sign : (c : ℕ) → digit_value c < 10 → (b : ℕ) → b < 48 → (c == b) ≡ false
no_sign c digit b sign = tested (c == b) (Decides-eqb c b) where
  tested : (t : Bool) → Decides t (c ≡ b) → t ≡ false
  tested false d = refl
  tested true d = absurd (omega (arith, digit_from_value c digit, d.0 refl, sign))

-- digits are read as they stand
plain : (ds : List ℕ) → IsNumeral 10 ds → signed_digits_value 10 ds ≡ pos (digits_value 10 ds)
plain [] h = absurd (omega (arith, h.0))
plain (c ∷ cs) h = rw (no_sign c h.1.0 45 (omega arith), no_sign c h.1.0 43 (omega arith)) refl

value_is : (n : ℤ) → FitsSigned w64 n → signed_digits_value 10 (signed_decimal n) ≡ n
value_is (pos n) fit =
    let k = decimal_is_IsNumeral n (omega (arith, fit.sfits)) in plain (decimal n) k.0 ∙ ap pos k.1
value_is (negsuc n) fit =
    let k = decimal_is_IsNumeral (suc n) (omega (arith, fit.sfits)) in ap (λ m. neg_ℤ (pos m)) k.1

fits_back : (n : ℤ) → FitsSigned w64 n → fits_64 n ≡ true
fits_back (pos n) fit = grind (arith, fit.sfits)
fits_back (negsuc n) fit = grind (arith, fit.sfits)

pub integer_some : (text : List ℕ) (n : ℤ) → FitsSigned w64 n → text ≡ signed_decimal n → integer_of text ≡ Some n
integer_some text n fit is =
    let value : signed_digits_value 10 text ≡ n = ap (signed_digits_value 10) is ∙ value_is n fit in
    let same : bytes_eq (signed_decimal n) text ≡ true = (bytes_eq-Decides (signed_decimal n) text).1 (sym is) in
    rw (value, fits_back n fit, same) refl

natural_none : (text : List ℕ) → ((n : ℕ) → n < 2 ^ 64 → text ≢ decimal n) → natural_of text ≡ None
natural_none text none =
    let n = digits_value 10 (without_leading_plus text) in
    refused (nat_lt n (2 ^ 64) && bytes_eq (decimal n) text) n
    (λ e. let parts = both (nat_lt n (2 ^ 64)) (bytes_eq (decimal n) text) e in
    none n (grind (arith, parts.0)) (sym ((bytes_eq-Decides (decimal n) text).0 parts.1)))

pub natural_unread : {E : Type 0} (text : List ℕ) (r : Result ℕ E) (e : E) → ParsesUnsigned 64 10 text r → r ≡ Err e → natural_of text ≡ None
natural_unread text r e read is =
    natural_none text (λ n fit same. let ok = parse-decimal 64 n text r fit fit same read in absurd cc)

pub natural_no_text : (text : List ℕ) → (IsUtf8 text → ⊥) → natural_of text ≡ None
natural_no_text text none =
    natural_none text (λ n fit same. none (IsUtf8-from_ascii text (subst IsAscii (sym same) (IsAscii-decimal n fit))))
