-- Numbers and their digits.
use Rattle.std.proofs.Common.{◌≡◌, ℕ, zero, suc, ◌+◌, ◌-◌, ◌*◌, ◌^◌, ◌≤◌, ◌<◌, List, [], ◌∷◌, ◌++◌, drop, take, length, get_or, refl, ap, sym, ◌∙◌, arith, true, add-one, drop-cons, All, Ok, inl, inr}
use Rattle.std.specs.Prelude.{decimal, nat_eq, nat_le}
use Rattle.std.specs.List.{AllByRecursion}
use Rattle.std.proofs.lemmas.Bool.Decides.{nat_tests}
use Rattle.std.proofs.lemmas.List.Elements.{All-from_recursion}
use Rattle.std.proofs.lemmas.List.{drop_all, take_at, drop_at, take-append-drop}
use Rattle.std.proofs.lemmas.Fmt.{digits_decimal, digits_value-decimal, decimal-digits_value, decimal_nonempty, decimal_digit, first_decimal}
use Rattle.std.proofs.lemmas.Str.Parse.{IsNumeralModel, IsDigitsTest, numerals_by_fold}
use Rattle.bpf_model.proofs.Options.{test_of}
use Rattle.bpf_assembler.specs.Operands.{run, value_from, is_digit, is_numeral, number_at}
use Rattle.bpf_assembler.proofs.RunLemmas.{run-front}

-- the digit at an index goes into the number
pub value_from-next : (ds : List ℕ) (k d v total : ℕ) → k < length ds → value_from v (drop k ds) ≡ total → value_from (v * 10 + (get_or ds k d - 48)) (drop (k + 1) ds) ≡ total
unfolding value_from
value_from-next ds k d v total h before =
    let here : value_from v (drop k ds) ≡ value_from (10 * v + (get_or ds k d - 48)) (drop (suc k) ds) = rw (drop-cons ds k d h) refl in
    let turned : v * 10 + (get_or ds k d - 48) ≡ 10 * v + (get_or ds k d - 48) = omega arith in
    rw (add-one, turned) (sym here ∙ before)

-- digits make no number less
pub value_from-grows : (n : ℕ) (ds : List ℕ) → n ≤ value_from n ds
unfolding value_from
value_from-grows n [] = omega arith
value_from-grows n (c ∷ cs) = omega (arith, value_from-grows (10 * n + (c - 48)) cs)

pub value_from-end : (ds : List ℕ) (k v total : ℕ) → length ds ≤ k → value_from v (drop k ds) ≡ total → v ≡ total
unfolding value_from
value_from-end ds k v total h before =
    let here : value_from v (drop k ds) ≡ v = rw (drop_all k ds h) refl in
    sym here ∙ before

-- if the next step passes a bound, so does the number
pub value_from-passes : (ds : List ℕ) (k d v total : ℕ) → k < length ds → value_from v (drop k ds) ≡ total → v * 10 + (get_or ds k d - 48) ≤ total
value_from-passes ds k d v total h before =
    let next = value_from-next ds k d v total h before in
    omega (arith, next, value_from-grows (v * 10 + (get_or ds k d - 48)) (drop (k + 1) ds))

-- ---- digits

abbrev pub AreDigits : List ℕ → Type 0
AreDigits ds = AllByRecursion (λ c. is_digit c ≡ true) ds

pub digit_range : (c : ℕ) → is_digit c ≡ true → (48 ≤ c) × (c ≤ 57)
digit_range c e = (grind (arith, nat_tests), grind (arith, nat_tests))

range_digit : (c : ℕ) → 48 ≤ c → c ≤ 57 → is_digit c ≡ true
range_digit c l h = grind (arith, nat_tests)

-- a run of digits has only digits
pub AreDigits-run : (xs : List ℕ) → AreDigits (take (run is_digit xs) xs)
unfolding run
AreDigits-run [] = tt
AreDigits-run (c ∷ cs) = elim (test_of (is_digit c)) [
  | inl e ↦ rw e (e, AreDigits-run cs)
  | inr e ↦ rw e tt
]

pub digits_in_range : (xs : List ℕ) → AreDigits xs → All (λ c. (48 ≤ c) × (c ≤ 57)) xs
digits_in_range xs all = All-from_recursion (λ c. (48 ≤ c) × (c ≤ 57)) xs (ranges xs all)
  where
    ranges : (ds : List ℕ) → AreDigits ds → AllByRecursion (λ c. (48 ≤ c) × (c ≤ 57)) ds
    ranges [] h = tt
    ranges (c ∷ cs) h = (digit_range c h.0, ranges cs h.1)

digits_test : IsDigitsTest AreDigits
digits_test = record {
  empty = tt;
  parts = λ c cs h. (digit_range c h.0, h.1);
  more = λ c cs r h. (range_digit c r.0 r.1, h);
}

pub own : IsNumeralModel AreDigits (value_from 0)
unfolding value_from
own = numerals_by_fold AreDigits digits_test value_from (record {
  empty = λ n. refl;
  more = λ n c cs r. let e : 10 * n + (c - 48) ≡ n * 10 + (c - 48) = omega arith in ap (λ k. value_from k cs) e;
})

-- ---- numerals

is_numeral-of : (ds : List ℕ) → 0 < length ds → (get_or ds 0 0 ≡ 48 → length ds ≡ 1) → is_numeral ds ≡ true
is_numeral-of [] some one = absurd (omega arith)
is_numeral-of (c ∷ cs) some one = elim (test_of (nat_eq c 48)) [
  | inl e ↦
      let zero_first : c ≡ 48 = grind (arith, nat_tests) in
      let alone : nat_eq (length cs) 0 ≡ true = grind (arith, nat_tests, one zero_first) in
      rw (e, alone) refl
  | inr e ↦ rw e refl
]

numeral_first : (ds : List ℕ) → is_numeral ds ≡ true → (0 < length ds) × (get_or ds 0 0 ≡ 48 → length ds ≡ 1)
numeral_first [] e = absurd cc
numeral_first (c ∷ cs) e = (
  omega arith,
  λ zero_first.
      let first : nat_eq c 48 ≡ true = grind (arith, nat_tests) in
      let alone : nat_eq (length cs) 0 ≡ true = rw first at e in
      grind (arith, nat_tests),
)

is_numeral-decimal : (n : ℕ) → n < 2 ^ 64 → is_numeral (decimal n) ≡ true
is_numeral-decimal zero h = rw (decimal_digit 0 (omega arith)) refl
is_numeral-decimal (suc n) h = is_numeral-of (decimal (suc n)) (decimal_nonempty (suc n) h) (λ e. absurd (omega (arith, e, first_decimal (suc n) (omega arith) h)))

-- digits read as a number are that number's text
pub numeral_is_decimal : (ds : List ℕ) → AreDigits ds → is_numeral ds ≡ true → value_from 0 ds < 2 ^ 64 → decimal (value_from 0 ds) ≡ ds
numeral_is_decimal ds all numeral small =
    let (some, one) = numeral_first ds numeral in
    decimal-digits_value own ds all some one small

-- and a number is read back
pub number_again : (limit n : ℕ) (rest : List ℕ) → n ≤ limit → n < 2 ^ 64 → run is_digit rest ≡ 0 → number_at limit (decimal n ++ rest) ≡ Ok (n, rest)
unfolding number_at
number_again limit n rest bounded small stops =
    let len = run-front is_digit (decimal n) rest (digits_decimal own n small) stops in
    let value = digits_value-decimal own n small in
    let within : nat_le n limit ≡ true = grind (arith, nat_tests) in
    rw (len, take_at (decimal n) rest (length (decimal n)) refl, drop_at (decimal n) rest (length (decimal n)) refl, is_numeral-decimal n small, value, within) refl

-- a number that was read is the one in the text
pub number_found : (text ds rest : List ℕ) (n : ℕ) → ds ≡ take (run is_digit text) text → rest ≡ drop (run is_digit text) text → is_numeral ds ≡ true → n ≡ value_from 0 ds → n < 2 ^ 64
    → text ≡ decimal n ++ rest
number_found text ds rest n front behind numeral value small =
    let all : AreDigits ds = rw front (AreDigits-run text) in
    let written : decimal n ≡ ds = ap decimal value ∙ numeral_is_decimal ds all numeral (omega (arith, value)) in
    rw (written, front, behind) (sym (take-append-drop (run is_digit text) text))
