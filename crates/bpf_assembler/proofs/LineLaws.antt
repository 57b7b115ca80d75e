-- Written text is read back: numbers, operands and lines.
use Rattle.std.proofs.Common.{◌≡◌, ℕ, suc, ◌-◌, ◌^◌, ◌≤◌, ◌<◌, List, [], ◌∷◌, ◌++◌, length, refl, ap, ◌∙◌, arith, true, false, Ok, inl, inr}
use Rattle.std.specs.Prelude.{decimal, nat_eq, ℤ, pos, negsuc}
use Rattle.std.proofs.lemmas.Bool.Decides.{nat_tests}
use Rattle.std.proofs.lemmas.Fmt.{digits_decimal, decimal_nonempty}
use Rattle.bpf_model.proofs.Options.{test_of}
use Rattle.bpf_model.specs.declared.instruction.Operand.{Operand}
use Rattle.bpf_model.specs.declared.instruction.Operand.TheVariants.{Register, Immediate}
use Rattle.bpf_model.specs.Spelling.{IsImmediate, IsOffset, IsOperand}
use Rattle.bpf_assembler.specs.Text.{immediate, offset, register_text, operand}
use Rattle.bpf_assembler.specs.Operands.{run, is_digit, begins_with, byte_at, register_at, positive_at, negative_at, FitsBelow, immediate_at, offset_at, operand_at, comma_at, dst_at, base_at, displacement_at}
use Rattle.bpf_assembler.proofs.NumberLemmas.{AreDigits, own, number_again}

-- the next byte is no digit
abbrev pub Stops : List ℕ → Type 0
Stops rest = run is_digit rest ≡ 0

pub stops_before : (c : ℕ) (rest : List ℕ) → is_digit c ≡ false → Stops (c ∷ rest)
unfolding run
stops_before c rest e = rw e refl

-- digits begin with no other byte
digits_begin : (b : ℕ) (ds rest : List ℕ) → AreDigits ds → 0 < length ds → is_digit b ≡ false → begins_with b (ds ++ rest) ≡ false
digits_begin b [] rest all some e = absurd (omega arith)
digits_begin b (c ∷ cs) rest all some e = elim (test_of (nat_eq c b)) [
  | inl same ↦ let is : c ≡ b = grind (arith, nat_tests) in absurd (let here : is_digit c ≡ true = all.0 in let other : is_digit c ≡ false = ap is_digit is ∙ e in cc)
  | inr other ↦ other
]

decimal_begins : (b n : ℕ) (rest : List ℕ) → n < 2 ^ 64 → is_digit b ≡ false → begins_with b (decimal n ++ rest) ≡ false
decimal_begins b n rest small e = digits_begin b (decimal n) rest (digits_decimal own n small) (decimal_nonempty n small) e

-- ---- numbers

pub register_again : (r : ℕ) (rest : List ℕ) → r ≤ 10 → Stops rest → register_at (register_text r ++ rest) ≡ Ok (r, rest)
unfolding register_at byte_at
register_again r rest h stops = number_again 10 r rest h (omega arith) stops

positive_again : (half n : ℕ) (rest : List ℕ) → n < half → half ≤ 2 ^ 31 → Stops rest → positive_at half (decimal n ++ rest) ≡ Ok (pos n, rest)
unfolding positive_at
positive_again half n rest h small stops = rw (number_again (half - 1) n rest (omega arith) (omega arith) stops) refl

negative_again : (half n : ℕ) (rest : List ℕ) → n < half → half ≤ 2 ^ 31 → Stops rest → negative_at half (decimal (suc n) ++ rest) ≡ Ok (negsuc n, rest)
unfolding negative_at
negative_again half n rest h small stops =
    let less : suc n - 1 ≡ n = omega arith in
    let some : nat_eq (suc n) 0 ≡ false = grind (arith, nat_tests) in
    rw (number_again half (suc n) rest (omega arith) (omega arith) stops, some, less) refl

pub immediate_again : (z : ℤ) (rest : List ℕ) → FitsBelow (2 ^ 31) z → Stops rest → immediate_at (immediate z ++ rest) ≡ Ok (z, rest)
unfolding immediate_at
immediate_again (pos n) rest h stops = rw (decimal_begins 45 n rest (omega (arith, h)) refl) (positive_again (2 ^ 31) n rest h (omega arith) stops)
immediate_again (negsuc n) rest h stops = negative_again (2 ^ 31) n rest h (omega arith) stops

pub offset_again : (half : ℕ) (z : ℤ) (rest : List ℕ) → FitsBelow half z → half ≤ 2 ^ 31 → Stops rest → offset_at half (offset z ++ rest) ≡ Ok (z, rest)
unfolding offset_at
offset_again half (pos n) rest h small stops = positive_again half n rest h small stops
offset_again half (negsuc n) rest h small stops = negative_again half n rest h small stops

pub below_immediate : (z : ℤ) → IsImmediate z → FitsBelow (2 ^ 31) z
below_immediate (pos n) h = omega (arith, h.sfits)
below_immediate (negsuc n) h = omega (arith, h.sfits)

pub below_offset : (z : ℤ) → IsOffset z → FitsBelow (2 ^ 15) z
below_offset (pos n) h = omega (arith, h.sfits)
below_offset (negsuc n) h = omega (arith, h.sfits)

immediate_begins : (z : ℤ) (rest : List ℕ) → IsImmediate z → begins_with 114 (immediate z ++ rest) ≡ false
immediate_begins (pos n) rest h = decimal_begins 114 n rest (omega (arith, h.sfits)) refl
immediate_begins (negsuc n) rest h = refl

pub operand_again : (src : Operand) (rest : List ℕ) → IsOperand src → Stops rest → operand_at (operand src ++ rest) ≡ Ok (src, rest)
unfolding operand_at
operand_again (Register r) rest h stops = rw (register_again r rest h stops) refl
operand_again (Immediate z) rest h stops = rw (immediate_begins z rest h, immediate_again z rest (below_immediate z h) stops) refl

offset_stops : (z : ℤ) (rest : List ℕ) → Stops (offset z ++ rest)
unfolding run
offset_stops (pos n) rest = refl
offset_stops (negsuc n) rest = refl

-- ---- pieces of operands

pub comma_again : (rest : List ℕ) → comma_at (44 ∷ 32 ∷ rest) ≡ Ok (tt, rest)
unfolding comma_at byte_at
comma_again rest = refl

pub dst_again : (r : ℕ) (rest : List ℕ) → r ≤ 10 → Stops rest → dst_at (32 ∷ (register_text r ++ rest)) ≡ Ok (r, rest)
unfolding dst_at byte_at
dst_again r rest h stops = register_again r rest h stops

pub blank_again : (rest : List ℕ) → byte_at 32 (32 ∷ rest) ≡ Ok (tt, rest)
unfolding byte_at
blank_again rest = refl

pub base_again : (r : ℕ) (z : ℤ) (rest : List ℕ) → r ≤ 10 → base_at (91 ∷ (register_text r ++ (offset z ++ rest))) ≡ Ok (r, offset z ++ rest)
unfolding base_at byte_at
base_again r z rest h = register_again r (offset z ++ rest) h (offset_stops z rest)

pub displacement_again : (z : ℤ) (rest : List ℕ) → IsOffset z → displacement_at (offset z ++ 93 ∷ rest) ≡ Ok (z, rest)
unfolding displacement_at byte_at
displacement_again z rest h = rw (offset_again (2 ^ 15) z (93 ∷ rest) (below_offset z h) (omega arith) (stops_before 93 rest refl)) refl
