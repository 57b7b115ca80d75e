-- The operands of each instruction are read back, and so are lines.
use Rattle.std.proofs.Common.{◌≡◌, ℕ, ◌^◌, ◌-◌, List, ◌∷◌, ◌++◌, length, ◌<◌, refl, ap, sym, ◌∙◌, arith, length-append, Result, Ok, Err, append_assoc}
use Rattle.std.specs.Prelude.{decimal, codes}
use Rattle.std.proofs.lemmas.List.{take_at, drop_at}
use Rattle.bpf_model.specs.declared.instruction.Operand.TheVariants.{Register, Immediate}
use Rattle.bpf_model.specs.declared.instruction.Insn.{Insn}
use Rattle.bpf_model.specs.declared.instruction.Insn.TheVariants.{Alu, Negate, Mov, SignExtend, Reorder, Wide, Load, Store, Jump, JumpLong, Branch, Exit}
use Rattle.bpf_model.specs.Spelling.{IsInstruction}
use Rattle.bpf_assembler.specs.declared.mnemonic.Mnemonic.{Mnemonic}
use Rattle.bpf_assembler.specs.declared.fault.LineFault.{LineFault}
use Rattle.bpf_assembler.specs.Names.{name_of}
use Rattle.bpf_assembler.specs.Text.{immediate, offset, register_text, operand, mnemonic_of, operands_of, line_of}
use Rattle.bpf_assembler.specs.Operands.{run}
use Rattle.bpf_assembler.specs.Reading.{is_name_byte, operands_at, name_at, newline_at, line_at}
use Rattle.bpf_assembler.proofs.RunLemmas.{run-front}
use Rattle.bpf_assembler.proofs.NumberLemmas.{number_again}
use Rattle.bpf_assembler.proofs.NameLaws.{mnemonic_again, name_bytes}
use Rattle.bpf_assembler.proofs.LineLaws.{Stops, stops_before, register_again, immediate_again, offset_again, below_immediate, below_offset, operand_again, comma_again, dst_again, blank_again, base_again, displacement_again}

comma_stops : (rest : List ℕ) → Stops (44 ∷ 32 ∷ rest)
comma_stops rest = stops_before 44 (32 ∷ rest) refl

-- the same bytes, from the left
four : (a b c d rest : List ℕ) → a ++ b ++ c ++ d ++ rest ≡ a ++ (b ++ (c ++ (d ++ rest)))
four a b c d rest = simp append_assoc

six : (a b c d e f rest : List ℕ) → a ++ b ++ c ++ d ++ e ++ f ++ rest ≡ a ++ (b ++ (c ++ (d ++ (e ++ (f ++ rest)))))
six a b c d e f rest = simp append_assoc

place_last : (a b c d e f g rest : List ℕ) → a ++ b ++ c ++ (d ++ e ++ f ++ g) ++ rest ≡ a ++ (b ++ (c ++ (d ++ (e ++ (f ++ (g ++ rest))))))
place_last a b c d e f g rest = simp append_assoc

place_first : (a b c d e f g rest : List ℕ) → a ++ (b ++ c ++ d ++ e) ++ f ++ g ++ rest ≡ a ++ (b ++ (c ++ (d ++ (e ++ (f ++ (g ++ rest))))))
place_first a b c d e f g rest = simp append_assoc

pub operands_again : (i : Insn) (rest : List ℕ) → IsInstruction i → Stops rest → operands_at (mnemonic_of i) (operands_of i ++ rest) ≡ Ok (i, rest)
unfolding operands_at operands_of
operands_again (Alu op width dst src) rest h stops =
    let parts : operands_of (Alu op width dst src) ++ rest ≡ 32 ∷ (register_text dst ++ 44 ∷ 32 ∷ (operand src ++ rest)) = four (codes " ") (register_text dst) (codes ", ") (operand src) rest in
    rw (parts, dst_again dst (44 ∷ 32 ∷ (operand src ++ rest)) h.0 (comma_stops _), comma_again (operand src ++ rest), operand_again src rest h.1 stops) refl
operands_again (Negate width dst) rest h stops =
    let parts : operands_of (Negate width dst) ++ rest ≡ 32 ∷ (register_text dst ++ rest) = append_assoc (codes " ") (register_text dst) rest in
    rw (parts, dst_again dst rest h stops) refl
operands_again (Mov width dst src) rest h stops =
    let parts : operands_of (Mov width dst src) ++ rest ≡ 32 ∷ (register_text dst ++ 44 ∷ 32 ∷ (operand src ++ rest)) = four (codes " ") (register_text dst) (codes ", ") (operand src) rest in
    rw (parts, dst_again dst (44 ∷ 32 ∷ (operand src ++ rest)) h.0 (comma_stops _), comma_again (operand src ++ rest), operand_again src rest h.1 stops) refl
operands_again (SignExtend extension dst src) rest h stops =
    let parts : operands_of (SignExtend extension dst src) ++ rest ≡ 32 ∷ (register_text dst ++ 44 ∷ 32 ∷ (register_text src ++ rest)) = four (codes " ") (register_text dst) (codes ", ") (register_text src) rest in
    rw (parts, dst_again dst (44 ∷ 32 ∷ (register_text src ++ rest)) h.0 (comma_stops _), comma_again (register_text src ++ rest), register_again src rest h.1 stops) refl
operands_again (Reorder order size dst) rest h stops =
    let parts : operands_of (Reorder order size dst) ++ rest ≡ 32 ∷ (register_text dst ++ rest) = append_assoc (codes " ") (register_text dst) rest in
    rw (parts, dst_again dst rest h stops) refl
operands_again (Wide dst value) rest h stops =
    let parts : operands_of (Wide dst value) ++ rest ≡ 32 ∷ (register_text dst ++ 44 ∷ 32 ∷ (decimal value ++ rest)) = four (codes " ") (register_text dst) (codes ", ") (decimal value) rest in
    rw (parts, dst_again dst (44 ∷ 32 ∷ (decimal value ++ rest)) h.0 (comma_stops _), comma_again (decimal value ++ rest), number_again (2 ^ 64 - 1) value rest (omega (arith, h.1)) h.1 stops) refl
operands_again (Load kind dst src z) rest h stops =
    let parts : operands_of (Load kind dst src z) ++ rest ≡ 32 ∷ (register_text dst ++ 44 ∷ 32 ∷ 91 ∷ (register_text src ++ (offset z ++ 93 ∷ rest))) = place_last (codes " ") (register_text dst) (codes ", ") (codes "[") (register_text src) (offset z) (codes "]") rest in
    rw (
      parts,
      dst_again dst (44 ∷ 32 ∷ 91 ∷ (register_text src ++ (offset z ++ 93 ∷ rest))) h.0 (comma_stops _),
      comma_again (91 ∷ (register_text src ++ (offset z ++ 93 ∷ rest))),
      base_again src z (93 ∷ rest) h.1,
      displacement_again z rest h.2,
    )
    refl
operands_again (Store size dst (Register src) z) rest h stops =
    let parts : operands_of (Store size dst (Register src) z) ++ rest ≡ 32 ∷ 91 ∷ (register_text dst ++ (offset z ++ 93 ∷ 44 ∷ 32 ∷ (register_text src ++ rest))) = place_first (codes " ") (codes "[") (register_text dst) (offset z) (codes "]") (codes ", ") (register_text src) rest in
    rw (
      parts,
      blank_again (91 ∷ (register_text dst ++ (offset z ++ 93 ∷ 44 ∷ 32 ∷ (register_text src ++ rest)))),
      base_again dst z (93 ∷ 44 ∷ 32 ∷ (register_text src ++ rest)) h.0,
      displacement_again z (44 ∷ 32 ∷ (register_text src ++ rest)) h.2,
      comma_again (register_text src ++ rest),
      register_again src rest h.1 stops,
    )
    refl
operands_again (Store size dst (Immediate imm) z) rest h stops =
    let parts : operands_of (Store size dst (Immediate imm) z) ++ rest ≡ 32 ∷ 91 ∷ (register_text dst ++ (offset z ++ 93 ∷ 44 ∷ 32 ∷ (immediate imm ++ rest))) = place_first (codes " ") (codes "[") (register_text dst) (offset z) (codes "]") (codes ", ") (immediate imm) rest in
    rw (
      parts,
      blank_again (91 ∷ (register_text dst ++ (offset z ++ 93 ∷ 44 ∷ 32 ∷ (immediate imm ++ rest)))),
      base_again dst z (93 ∷ 44 ∷ 32 ∷ (immediate imm ++ rest)) h.0,
      displacement_again z (44 ∷ 32 ∷ (immediate imm ++ rest)) h.2,
      comma_again (immediate imm ++ rest),
      immediate_again imm rest (below_immediate imm h.1) stops,
    )
    refl
operands_again (Jump z) rest h stops =
    rw (blank_again (offset z ++ rest), offset_again (2 ^ 15) z rest (below_offset z h) (omega arith) stops) refl
operands_again (JumpLong z) rest h stops =
    rw (blank_again (offset z ++ rest), offset_again (2 ^ 31) z rest (below_immediate z h) (omega arith) stops) refl
operands_again (Branch test width dst src z) rest h stops =
    let parts : operands_of (Branch test width dst src z) ++ rest ≡ 32 ∷ (register_text dst ++ 44 ∷ 32 ∷ (operand src ++ 44 ∷ 32 ∷ (offset z ++ rest))) = six (codes " ") (register_text dst) (codes ", ") (operand src) (codes ", ") (offset z) rest in
    rw (
      parts,
      dst_again dst (44 ∷ 32 ∷ (operand src ++ 44 ∷ 32 ∷ (offset z ++ rest))) h.0 (comma_stops _),
      comma_again (operand src ++ 44 ∷ 32 ∷ (offset z ++ rest)),
      operand_again src (44 ∷ 32 ∷ (offset z ++ rest)) h.1 (comma_stops _),
      comma_again (offset z ++ rest),
      offset_again (2 ^ 15) z rest (below_offset z h.2) (omega arith) stops,
    )
    refl
operands_again Exit rest h stops = refl

-- ---- lines

-- after a name comes a blank, or at once the newline
operands_after_name : (i : Insn) (rest : List ℕ) → run is_name_byte (operands_of i ++ 10 ∷ rest) ≡ 0
unfolding run operands_of
operands_after_name (Alu op width dst src) rest = refl
operands_after_name i rest = refl

name_again : (m : Mnemonic) (rest : List ℕ) → run is_name_byte rest ≡ 0 → name_at (name_of m ++ rest) ≡ Ok (m, rest)
unfolding name_at
name_again m rest stops =
    let len = run-front is_name_byte (name_of m) rest (name_bytes m) stops in
    rw (len, take_at (name_of m) rest (length (name_of m)) refl, drop_at (name_of m) rest (length (name_of m)) refl, mnemonic_again m) refl

newline_again : (rest : List ℕ) → newline_at (10 ∷ rest) ≡ Ok (tt, rest)
unfolding newline_at
newline_again rest = refl

-- a line is read back, whatever follows it
pub line_again : (i : Insn) (rest : List ℕ) → IsInstruction i → line_at (line_of i ++ rest) ≡ Ok (i, rest)
unfolding line_at line_of
line_again i rest h =
    let parts : line_of i ++ rest ≡ name_of (mnemonic_of i) ++ (operands_of i ++ 10 ∷ rest) = append_assoc (name_of (mnemonic_of i) ++ operands_of i) (codes "\n") rest ∙ append_assoc (name_of (mnemonic_of i)) (operands_of i) (10 ∷ rest) in
    rw (
      parts,
      name_again (mnemonic_of i) (operands_of i ++ 10 ∷ rest) (operands_after_name i rest),
      operands_again i (10 ∷ rest) h (stops_before 10 rest refl),
      newline_again rest,
    )
    refl

abbrev done : Insn × List ℕ → Result (Insn × List ℕ) LineFault
done x = Ok x

-- so no line begins another
pub line-first : (i j : Insn) (a b : List ℕ) → IsInstruction i → IsInstruction j → line_of i ++ a ≡ line_of j ++ b → (i ≡ j) × (a ≡ b)
line-first i j a b hi hj e =
    let first = line_again i a hi in
    let second = line_again j b hj in
    let same : line_at (line_of i ++ a) ≡ line_at (line_of j ++ b) = ap line_at e in
    let both : done (i, a) ≡ done (j, b) = sym first ∙ same ∙ second in
    (ap (λ r. insn_in i r) both, ap (λ r. rest_in a r) both)
  where
    insn_in : Insn → Result (Insn × List ℕ) LineFault → Insn
    insn_in d (Ok x) = x.0
    insn_in d (Err e) = d

    rest_in : List ℕ → Result (Insn × List ℕ) LineFault → List ℕ
    rest_in d (Ok x) = x.1
    rest_in d (Err e) = d

-- a line has at least its newline
pub line_some : (i : Insn) → 0 < length (line_of i)
unfolding line_of
line_some i = omega (arith, length-append (name_of (mnemonic_of i) ++ operands_of i) (codes "\n"))
