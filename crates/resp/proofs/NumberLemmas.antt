-- Decimal numbers at the front of bytes.
use Rattle.std.proofs.Common.{rules, arith, ◌≡◌, ◌≢◌, ◌⊎◌, inl, inr, ℕ, suc, ℤ, pos, negsuc, FitsSigned, ◌+◌, ◌-◌, ◌*◌, ◌/◌, ◌%◌, ◌<◌, ◌≤◌, ◌^◌, Bool, true, false, ◌&&◌, not, List, [], ◌∷◌, ◌++◌, length, get_or, refl, sym, ap, subst, ◌∙◌, append_assoc, append-nil, decimal}
use Rattle.std.specs.Char.{is_ascii_digit}
use Rattle.std.specs.Str.{all_ascii_digits}
use Rattle.std.specs.Fmt.{signed_decimal}
use Rattle.std.specs.Int.{w64}
use Rattle.std.proofs.lemmas.List.Elements.{All-nil, All-cons, All-head, All-append}
use Rattle.std.proofs.lemmas.Str.Parse.{IsNumeralModel, numerals_by_fold}
use Rattle.std.proofs.lemmas.Fmt.{decimal_digit, decimal_step, decimal_nonempty, decimal_injective, first_decimal, digits_decimal, digits_value-decimal}
use Rattle.resp.specs.Streams.{IsFrontOf, NeverBegins, StopsAt, HasNo}
use Rattle.resp.specs.Grammar.{newline, number_line, IsNumberLine, IsNewline}
use Rattle.resp.specs.Reading.{is_other, NoDigits}
use Rattle.resp.proofs.StreamLemmas.{front_goes_on, one_cut, tails, true_or_false}

abbrev read_on : ℕ → List ℕ → ℕ
read_on n [] = n
read_on n (c ∷ cs) = read_on (10 * n + (c - 48)) cs

own : IsNumeralModel (λ ds. all_ascii_digits ds ≡ true) (read_on 0)
own = numerals_by_fold _ (search rules) read_on (search rules)

grows : (n : ℕ) (ds : List ℕ) → n ≤ read_on n ds
grows n [] = omega arith
grows n (c ∷ cs) = let more = grows (10 * n + (c - 48)) cs in omega (arith, more)

read_both : (n : ℕ) (ds es : List ℕ) → read_on n (ds ++ es) ≡ read_on (read_on n ds) es
read_both n [] es = refl
read_both n (c ∷ cs) es = read_both (10 * n + (c - 48)) cs es

both : (a b : Bool) → (a && b) ≡ true → (a ≡ true) × (b ≡ true)
both true true e = (refl, refl)
both true false e = absurd cc
both false b e = absurd cc

no_others : (ds : List ℕ) → all_ascii_digits ds ≡ true → HasNo is_other ds
no_others [] all = All-nil (λ b. is_other b ≡ false)
no_others (c ∷ cs) all =
    let (digit, more) = both (is_ascii_digit c) (all_ascii_digits cs) all in
    All-cons (λ b. is_other b ≡ false) c cs (ap not digit) (no_others cs more)

pub decimal_digits : (n : ℕ) → n < 2 ^ 64 → HasNo is_other (decimal n)
decimal_digits n small = no_others (decimal n) (digits_decimal own n small)

value : (n : ℕ) → n < 2 ^ 64 → read_on 0 (decimal n) ≡ n
value n small = digits_value-decimal own n small

digit_byte : (d : ℕ) → d ≤ 9 → is_other (48 + d) ≡ false
digit_byte d small = search (rules, arith)

-- one digit, and one more
pub first_digit : (d : ℕ) (bytes tail : List ℕ) → d ≤ 9 → bytes ≡ (48 + d) ∷ tail → bytes ≡ decimal d ++ tail
first_digit d bytes tail small e = e ∙ ap (λ (t : List ℕ). t ++ tail) (sym (decimal_digit d (omega (arith, small))))

pub digit_more : (n d : ℕ) (bytes rest tail : List ℕ) → 1 ≤ n → d ≤ 9 → 10 * n + d < 2 ^ 64 → bytes ≡ decimal n ++ rest → rest ≡ (48 + d) ∷ tail → bytes ≡ decimal (10 * n + d) ++ tail
digit_more n d bytes rest tail some small fits e f =
    let front : (10 * n + d) / 10 ≡ n = omega (arith, small) in
    let last : (10 * n + d) % 10 ≡ d = omega (arith, small) in
    let step : decimal (10 * n + d) ≡ decimal n ++ ((48 + d) ∷ []) = decimal_step (10 * n + d) (omega (arith, some)) fits ∙ rw (front, last) refl in
    e ∙ ap (λ (t : List ℕ). decimal n ++ t) f ∙ sym (append_assoc (decimal n) ((48 + d) ∷ []) tail) ∙ ap (λ (t : List ℕ). t ++ tail) (sym step)

-- a number whose digits begin with these is no less than they
pub at_least : (m : ℕ) (ds tail more rest bytes : List ℕ) → m < 2 ^ 64 → HasNo is_other ds → bytes ≡ ds ++ tail → StopsAt is_other rest → bytes ++ more ≡ decimal m ++ rest → (es : List ℕ) × (decimal m ≡ ds ++ es) × (read_on 0 ds ≤ m)
at_least m ds tail more rest bytes small digits e stops f =
    let whole : ds ++ (tail ++ more) ≡ decimal m ++ rest = sym (append_assoc ds tail more) ∙ ap (λ (t : List ℕ). t ++ more) (sym e) ∙ f in
    let (es, same) = front_goes_on is_other ds (tail ++ more) (decimal m) rest digits stops whole in
    let is : read_on (read_on 0 ds) es ≡ m = sym (read_both 0 ds es) ∙ ap (read_on 0) (sym same) ∙ value m small in
    let up = grows (read_on 0 ds) es in
    (es, same, omega (arith, is, up))

pub above : (n most : ℕ) (bytes rest : List ℕ) → most < n → n < 2 ^ 64 → bytes ≡ decimal n ++ rest → NoDigits most bytes
above n most bytes rest less small e m more tail within stops f =
    let (es, same, up) = at_least m (decimal n) rest more tail bytes (omega (arith, within, less, small)) (decimal_digits n small) e stops f in
    absurd (omega (arith, up, value n small, within, less))

pub zero_alone : (m : ℕ) (es : List ℕ) → m < 2 ^ 64 → decimal m ≡ 48 ∷ es → es ≡ []
zero_alone m es small e =
    let zero : m ≡ 0 = by_first (omega_or m) in
    tails 48 48 es [] (sym e ∙ ap decimal zero ∙ decimal_digit 0 (omega arith))
  where
    omega_or : (k : ℕ) → (k ≡ 0) ⊎ (0 < k)
    omega_or k = grind arith

    by_first : (m ≡ 0) ⊎ (0 < m) → m ≡ 0
    by_first (inl is) = is
    by_first (inr some) =
        let first = first_decimal m some small in
        let is : get_or (decimal m) 0 0 ≡ 48 = ap (λ (t : List ℕ). get_or t 0 0) e in
        absurd (omega (arith, first, is))

pub above_later : (n d most : ℕ) (bytes rest tail : List ℕ) → most ≤ 2 ^ 63 → n ≤ most + 9 → (n ≡ 0) ⊎ (most / 10 < n) → d ≤ 9 → bytes ≡ decimal n ++ rest → rest ≡ (48 + d) ∷ tail → NoDigits most bytes
above_later n d most bytes rest tail bound near (inl zero) small e f m more after within stops g =
    let ds = 48 ∷ (48 + d) ∷ [] in
    let front : bytes ≡ ds ++ tail = e ∙ ap (λ (k : ℕ). decimal k ++ rest) zero ∙ ap (λ (t : List ℕ). t ++ rest) (decimal_digit 0 (omega arith)) ∙ ap (λ (t : List ℕ). 48 ∷ t) f in
    let digits : HasNo is_other ds = All-cons (λ b. is_other b ≡ false) 48 ((48 + d) ∷ []) refl (All-cons (λ b. is_other b ≡ false) (48 + d) [] (digit_byte d small) (All-nil (λ b. is_other b ≡ false))) in
    let (es, same, up) = at_least m ds tail more after bytes (omega (arith, within, bound)) digits front stops g in
    let none = zero_alone m ((48 + d) ∷ es) (omega (arith, within, bound)) same in absurd cc
above_later n d most bytes rest tail bound near (inr big) small e f m more after within stops g =
    let ds = decimal n ++ (48 + d) ∷ [] in
    let fits : n < 2 ^ 64 = omega (arith, near, bound) in
    let front : bytes ≡ ds ++ tail = e ∙ ap (λ (t : List ℕ). decimal n ++ t) f ∙ sym (append_assoc (decimal n) ((48 + d) ∷ []) tail) in
    let digits : HasNo is_other ds = All-append (λ b. is_other b ≡ false) (decimal n) ((48 + d) ∷ []) (decimal_digits n fits) (All-cons (λ b. is_other b ≡ false) (48 + d) [] (digit_byte d small) (All-nil (λ b. is_other b ≡ false))) in
    let (es, same, up) = at_least m ds tail more after bytes (omega (arith, within, bound)) digits front stops g in
    let is : read_on 0 ds ≡ 10 * n + d = read_both 0 (decimal n) ((48 + d) ∷ []) ∙ ap (λ (k : ℕ). 10 * k + (48 + d - 48)) (value n fits) ∙ omega arith in
    absurd (omega (arith, up, is, big, within))

pub no_first : (most : ℕ) (bytes : List ℕ) → most ≤ 2 ^ 63 → StopsAt is_other bytes → 1 ≤ length bytes → NoDigits most bytes
no_first most [] bound stops some m more rest within ends e = absurd (omega (arith, some))
no_first most (b ∷ bytes) bound stops some m more rest within ends e =
    let small : m < 2 ^ 64 = omega (arith, within, bound) in
    let (front, back) = one_cut is_other [] (b ∷ (bytes ++ more)) (decimal m) rest (All-nil (λ b. is_other b ≡ false)) stops (decimal_digits m small) ends e in
    let len : 0 ≡ length (decimal m) = ap length front in
    absurd (omega (arith, len, decimal_nonempty m small))

-- ---- lines of numbers

pub whole_line : (n : ℕ) (bytes tail rest : List ℕ) → bytes ≡ decimal n ++ tail → tail ≡ newline ++ rest → bytes ≡ number_line n ++ rest
whole_line n bytes tail rest e f = e ∙ ap (λ (t : List ℕ). decimal n ++ t) f ∙ sym (append_assoc (decimal n) newline rest)

pub line_of_nothing : (most : ℕ) (bytes : List ℕ) → bytes ≡ [] → IsFrontOf (IsNumberLine most) bytes
line_of_nothing most bytes none =
    (48 ∷ newline, (omega arith, (0, omega arith, ap (λ (t : List ℕ). t ++ 48 ∷ newline) none ∙ ap (λ (t : List ℕ). t ++ newline) (sym (decimal_digit 0 (omega arith))))))

pub line_goes_on : (most n : ℕ) (bytes tail : List ℕ) → n ≤ most → bytes ≡ decimal n ++ tail → IsFrontOf IsNewline tail → IsFrontOf (IsNumberLine most) bytes
line_goes_on most n bytes tail within e (more, (some, f)) =
    (more, (some, (n, within, ap (λ (t : List ℕ). t ++ more) e ∙ append_assoc (decimal n) tail more ∙ ap (λ (t : List ℕ). decimal n ++ t) f)))

pub no_line : (most : ℕ) (bytes : List ℕ) → NoDigits most bytes → NeverBegins (IsNumberLine most) bytes
no_line most bytes none more text rest (n, within, is) e =
    none n more (newline ++ rest) within refl (e ∙ ap (λ (t : List ℕ). t ++ rest) is ∙ append_assoc (decimal n) newline rest)

pub no_line_end : (most n : ℕ) (bytes tail : List ℕ) → most ≤ 2 ^ 63 → n ≤ most → bytes ≡ decimal n ++ tail → StopsAt is_other tail → NeverBegins IsNewline tail → NeverBegins (IsNumberLine most) bytes
no_line_end most n bytes [] bound within e stops none more text rest is f = absurd (none newline newline [] refl refl)
no_line_end most n bytes (b ∷ tail) bound within e stops none more text rest (m, below, is) f =
    let whole : decimal n ++ ((b ∷ tail) ++ more) ≡ decimal m ++ (newline ++ rest) =
    sym (append_assoc (decimal n) (b ∷ tail) more) ∙ ap (λ (t : List ℕ). t ++ more) (sym e) ∙ f ∙ ap (λ (t : List ℕ). t ++ rest) is ∙ append_assoc (decimal m) newline rest in
    let (same, left) = one_cut is_other (decimal n) ((b ∷ tail) ++ more) (decimal m) (newline ++ rest) (decimal_digits n (omega (arith, within, bound))) stops (decimal_digits m (omega (arith, below, bound))) refl whole in
    none more newline rest refl left

-- two readings of a line are one
pub one_number : (n m : ℕ) (x y : List ℕ) → n < 2 ^ 64 → m < 2 ^ 64 → number_line n ++ x ≡ number_line m ++ y → (n ≡ m) × (x ≡ y)
one_number n m x y small below e =
    let (same, left) = one_cut is_other (decimal n) (newline ++ x) (decimal m) (newline ++ y) (decimal_digits n small) refl (decimal_digits m below) refl (sym (append_assoc (decimal n) newline x) ∙ e ∙ append_assoc (decimal m) newline y) in
    (decimal_injective n m small below same, tails 10 10 x y (tails 13 13 (10 ∷ x) (10 ∷ y) left))

-- ---- whole texts

pub no_text : (most n : ℕ) (text : List ℕ) → most ≤ 2 ^ 63 → (1 ≤ length text → NoDigits most text) → n ≤ most → text ≢ decimal n
no_text most n text bound none within e =
    let some : 1 ≤ length text = let len = ap length e in let more = decimal_nonempty n (omega (arith, within, bound)) in omega (arith, len, more) in
    none some n [] [] within tt (ap (λ (t : List ℕ). t ++ []) e)

pub more_text : (most n m : ℕ) (text rest : List ℕ) → most ≤ 2 ^ 63 → n ≤ most → 1 ≤ length rest → text ≡ decimal n ++ rest → StopsAt is_other rest → m ≤ most → text ≢ decimal m
more_text most n m text rest bound within some e stops below f =
    let (same, left) = one_cut is_other (decimal n) rest (decimal m) [] (decimal_digits n (omega (arith, within, bound))) stops (decimal_digits m (omega (arith, below, bound))) tt (sym e ∙ f ∙ sym (append-nil (decimal m))) in
    let len = ap length left in
    absurd (omega (arith, len, some))

-- after a `-`, only the digits of a number from 1 on make a negative number
pub no_negative : (text digits : List ℕ) → text ≡ 45 ∷ digits → ((n : ℕ) → 1 ≤ n → n ≤ 2 ^ 63 → digits ≢ decimal n) → (z : ℤ) → FitsSigned w64 z → text ≢ signed_decimal z
no_negative text digits sign none (pos n) fits e =
    let all : HasNo is_other (45 ∷ digits) = subst (HasNo is_other) (sym e ∙ sign) (decimal_digits n (search (rules, fits))) in
    absurd (true_or_false (is_other 45) refl (All-head (λ b. is_other b ≡ false) 45 digits all))
no_negative text digits sign none (negsuc n) fits e =
    none (suc n) (omega arith) (search (rules, fits)) (tails 45 45 digits (decimal (suc n)) (sym sign ∙ e))

pub zero_text : (n : ℕ) (digits : List ℕ) → n ≡ 0 → digits ≡ decimal n → (m : ℕ) → 1 ≤ m → m ≤ 2 ^ 63 → digits ≢ decimal m
zero_text n digits zero e m some within f =
    let same = decimal_injective n m (omega (arith, zero)) (omega (arith, within)) (sym e ∙ f) in
    absurd (omega (arith, same, zero, some))
