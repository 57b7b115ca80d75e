-- Bytes spell one program at most, and no instruction's spelling is the beginning of another's.
use Rattle.std.proofs.Common.{◌≡◌, ◌⊎◌, ℕ, ◌+◌, ◌*◌, ◌/◌, ◌%◌, ◌^◌, ◌<◌, ◌≤◌, true, false, List, [], ◌∷◌, ◌++◌, length, refl, sym, ap, subst, ◌∙◌, append_assoc, arith, length-append, inl, inr}
use Rattle.std.specs.Prelude.{nat_eq}
use Rattle.std.specs.Int.{w32, cast_signed, cast_unsigned}
use Rattle.std.proofs.lemmas.Bool.{both_ways}
use Rattle.std.proofs.lemmas.Bool.Decides.{nat_tests}
use Rattle.std.proofs.lemmas.Int.{of_z-to_z}
use Rattle.std.proofs.lemmas.List.Concat.{flat_map-cons}
use Rattle.bpf_model.specs.declared.operations.Width.{Width}
use Rattle.bpf_model.specs.declared.operations.Width.TheVariants.{W32, W64}
use Rattle.bpf_model.specs.declared.operations.ByteOrder.{ByteOrder}
use Rattle.bpf_model.specs.declared.operations.ByteOrder.TheVariants.{Little, Big, Swap}
use Rattle.bpf_model.specs.declared.instruction.Operand.{Operand}
use Rattle.bpf_model.specs.declared.instruction.Operand.TheVariants.{Register, Immediate}
use Rattle.bpf_model.specs.declared.instruction.Insn.{Insn}
use Rattle.bpf_model.specs.declared.instruction.Insn.TheVariants.{Alu, Negate, Mov, SignExtend, Reorder, Wide, Load, Store, Jump, JumpLong, Branch, Exit}
use Rattle.bpf_model.specs.Words.{IsWord, bytes_of}
use Rattle.bpf_model.specs.Arithmetic.{extension_width}
use Rattle.bpf_model.specs.Accesses.{loaded_size}
use Rattle.bpf_model.specs.Program.{units_of, unit_count}
use Rattle.bpf_model.specs.Spelling.{Fields, unit_bytes, opcode, alu_class, jump_class, source_bit, code_of, order_source, order_width, test_code, size_code, mode_of, store_class, fields_of, second_unit, second_bytes, spelling, spelling_of_all, IsInstruction, AreInstructions, Spells}
use Rattle.bpf_model.proofs.UnitLaws.{FitFields, unit_bytes-first, zero_offset, half_fits, fit-fields_of}
use Rattle.bpf_model.proofs.InstructionLaws.{insn_of, upper_half, opcode_parts, source_small, alu_class_small, jump_class_small, insn_of-fields_of}

-- instructions with an instruction more
pub AreInstructions-push : (is : List Insn) (i : Insn) → AreInstructions is → IsInstruction i → AreInstructions (is ++ i ∷ [])
AreInstructions-push [] i h g = (g, tt)
AreInstructions-push (x ∷ is) i h g = (h.0, AreInstructions-push is i h.1 g)

-- an instruction is wide and has a second unit, or has another class and no second unit
pub record IsWide (i : Insn) : Type 0 where
  pub dst : ℕ
  pub value : ℕ
  pub is : i ≡ Wide dst value

pub record IsNarrow (i : Insn) : Type 0 where
  pub class : nat_eq ((fields_of i).opcode % 8) 0 ≡ false
  pub no_second : second_bytes i ≡ []
  pub no_upper : upper_half i ≡ 0

not_zero : (n : ℕ) → 0 < n → nat_eq n 0 ≡ false
not_zero n h = grind (arith, nat_tests)

class_not_zero : (code source class : ℕ) → source ≤ 1 → class < 8 → 0 < class → nat_eq (opcode code source class % 8) 0 ≡ false
class_not_zero code source class h k some =
    let is = (opcode_parts code source class h k).0 in
    ap (λ (n : ℕ). nat_eq n 0) is ∙ not_zero class some

access_class_not_zero : (mode size class : ℕ) → class < 8 → 0 < class → nat_eq ((32 * mode + 8 * size + class) % 8) 0 ≡ false
access_class_not_zero mode size class k some =
    let is : (32 * mode + 8 * size + class) % 8 ≡ class = omega (arith, k) in
    ap (λ (n : ℕ). nat_eq n 0) is ∙ not_zero class some

alu_class_some : (width : Width) → 0 < alu_class width
alu_class_some W32 = omega arith
alu_class_some W64 = omega arith

jump_class_some : (width : Width) → 0 < jump_class width
jump_class_some W32 = omega arith
jump_class_some W64 = omega arith

class_of_stores : (src : Operand) → (store_class src < 8) × (0 < store_class src)
class_of_stores (Register r) = (omega arith, omega arith)
class_of_stores (Immediate imm) = (omega arith, omega arith)

order_source_small : (order : ByteOrder) → order_source order ≤ 1
order_source_small Little = omega arith
order_source_small Big = omega arith
order_source_small Swap = omega arith

wide_or_narrow : (i : Insn) → IsWide i ⊎ IsNarrow i
unfolding upper_half
wide_or_narrow (Alu op width dst src) = inr (record { class = class_not_zero (code_of op) (source_bit src) (alu_class width) (source_small src) (alu_class_small width) (alu_class_some width); no_second = refl; no_upper = refl })
wide_or_narrow (Negate width dst) = inr (record { class = class_not_zero 8 0 (alu_class width) (omega arith) (alu_class_small width) (alu_class_some width); no_second = refl; no_upper = refl })
wide_or_narrow (Mov width dst src) = inr (record { class = class_not_zero 11 (source_bit src) (alu_class width) (source_small src) (alu_class_small width) (alu_class_some width); no_second = refl; no_upper = refl })
wide_or_narrow (SignExtend extension dst src) = inr (record { class = class_not_zero 11 1 (alu_class (extension_width extension)) (omega arith) (alu_class_small (extension_width extension)) (alu_class_some (extension_width extension)); no_second = refl; no_upper = refl })
wide_or_narrow (Reorder order size dst) = inr (record { class = class_not_zero 13 (order_source order) (alu_class (order_width order)) (order_source_small order) (alu_class_small (order_width order)) (alu_class_some (order_width order)); no_second = refl; no_upper = refl })
wide_or_narrow (Wide dst value) = inl (record { dst = dst; value = value; is = refl })
wide_or_narrow (Load kind dst src offset) = inr (record { class = access_class_not_zero (mode_of kind) (size_code (loaded_size kind)) 1 (omega arith) (omega arith); no_second = refl; no_upper = refl })
wide_or_narrow (Store size dst src offset) = inr (record { class = access_class_not_zero 3 (size_code size) (store_class src) (class_of_stores src).0 (class_of_stores src).1; no_second = refl; no_upper = refl })
wide_or_narrow (Jump distance) = inr (record { class = refl; no_second = refl; no_upper = refl })
wide_or_narrow (JumpLong distance) = inr (record { class = refl; no_second = refl; no_upper = refl })
wide_or_narrow (Branch test width dst src distance) = inr (record { class = class_not_zero (test_code test) (source_bit src) (jump_class width) (source_small src) (jump_class_small width) (jump_class_some width); no_second = refl; no_upper = refl })
wide_or_narrow Exit = inr (record { class = refl; no_second = refl; no_upper = refl })

-- only a wide instruction has the class of wide ones
not_both : (i j : Insn) → IsWide i → IsNarrow j → fields_of i ≡ fields_of j → ⊥
not_both i j wide narrow e =
    let zero : nat_eq ((fields_of i).opcode % 8) 0 ≡ true = ap (λ (k : Insn). nat_eq ((fields_of k).opcode % 8) 0) wide.is in
    let same : nat_eq ((fields_of i).opcode % 8) 0 ≡ nat_eq ((fields_of j).opcode % 8) 0 = ap (λ (f : Fields). nat_eq (f.opcode % 8) 0) e in
    both_ways (nat_eq ((fields_of j).opcode % 8) 0) narrow.class (sym same ∙ zero)

fit-second_unit : (value : ℕ) → IsWord value → FitFields (second_unit value)
fit-second_unit value h = record { dst = omega arith; offset = zero_offset; imm = half_fits (value / 2 ^ 32) (omega (arith, h)) }

-- a second unit determines the upper half
second_unit-first : (v w : ℕ) (xs ys : List ℕ) → IsWord v → IsWord w → unit_bytes (second_unit v) ++ xs ≡ unit_bytes (second_unit w) ++ ys → (v / 2 ^ 32 ≡ w / 2 ^ 32) × (xs ≡ ys)
second_unit-first v w xs ys is-v is-w e =
    let first = unit_bytes-first (second_unit v) (second_unit w) xs ys (fit-second_unit v is-v) (fit-second_unit w is-w) e in
    let halves : cast_unsigned w32 (cast_signed w32 (v / 2 ^ 32)) ≡ cast_unsigned w32 (cast_signed w32 (w / 2 ^ 32)) = ap (λ (f : Fields). cast_unsigned w32 f.imm) first.0 in
    (sym (of_z-to_z w32 (v / 2 ^ 32) (omega (arith, is-v))) ∙ halves ∙ of_z-to_z w32 (w / 2 ^ 32) (omega (arith, is-w)), first.1)

second-first : (i j : Insn) (xs ys : List ℕ) → IsInstruction i → IsInstruction j → IsWide i ⊎ IsNarrow i → IsWide j ⊎ IsNarrow j → fields_of i ≡ fields_of j → second_bytes i ++ xs ≡ second_bytes j ++ ys → (upper_half i ≡ upper_half j) × (xs ≡ ys)
unfolding upper_half
second-first i j xs ys is-i is-j (inl wide) (inl also) e rest =
    let in-i = subst IsInstruction wide.is is-i in
    let in-j = subst IsInstruction also.is is-j in
    let units : unit_bytes (second_unit wide.value) ++ xs ≡ unit_bytes (second_unit also.value) ++ ys =
    ap (λ (k : Insn). second_bytes k ++ xs) (sym wide.is) ∙ rest ∙ ap (λ (k : Insn). second_bytes k ++ ys) also.is in
    let halves = second_unit-first wide.value also.value xs ys in-i.1 in-j.1 units in
    (ap upper_half wide.is ∙ halves.0 ∙ ap upper_half (sym also.is), halves.1)
second-first i j xs ys is-i is-j (inl wide) (inr narrow) e rest = absurd (not_both i j wide narrow e)
second-first i j xs ys is-i is-j (inr narrow) (inl wide) e rest = absurd (not_both j i wide narrow (sym e))
second-first i j xs ys is-i is-j (inr narrow) (inr also) e rest =
    (narrow.no_upper ∙ sym also.no_upper, ap (λ (k : List ℕ). k ++ xs) (sym narrow.no_second) ∙ rest ∙ ap (λ (k : List ℕ). k ++ ys) also.no_second)

-- no instruction's spelling is the beginning of another's
pub spelling-first : (i j : Insn) (xs ys : List ℕ) → IsInstruction i → IsInstruction j → spelling i ++ xs ≡ spelling j ++ ys → (i ≡ j) × (xs ≡ ys)
spelling-first i j xs ys is-i is-j e =
    let split : unit_bytes (fields_of i) ++ (second_bytes i ++ xs) ≡ unit_bytes (fields_of j) ++ (second_bytes j ++ ys) =
    sym (append_assoc (unit_bytes (fields_of i)) (second_bytes i) xs) ∙ e ∙ append_assoc (unit_bytes (fields_of j)) (second_bytes j) ys in
    let first = unit_bytes-first (fields_of i) (fields_of j) (second_bytes i ++ xs) (second_bytes j ++ ys) (fit-fields_of i is-i) (fit-fields_of j is-j) split in
    let second = second-first i j xs ys is-i is-j (wide_or_narrow i) (wide_or_narrow j) first.0 first.1 in
    (sym (insn_of-fields_of i) ∙ ap (λ (f : Fields). insn_of f (upper_half i)) first.0 ∙ ap (insn_of (fields_of j)) second.0 ∙ insn_of-fields_of j, second.1)

-- ---- programs

-- an instruction has eight bytes per unit
pub length-spelling : (i : Insn) → length (spelling i) ≡ 8 * units_of i
unfolding bytes_of
length-spelling (Wide dst value) = refl
length-spelling i = refl

-- instructions have eight bytes per unit
pub length-spelling_of_all : (is : List Insn) → length (spelling_of_all is) ≡ 8 * unit_count is
unfolding unit_count
length-spelling_of_all [] = refl
length-spelling_of_all (i ∷ is) =
    ap length (flat_map-cons spelling i is) ∙ length-append (spelling i) (spelling_of_all is) ∙ omega (arith, length-spelling i, length-spelling_of_all is)

-- an instruction has a byte
spelling_of_all-some : (i : Insn) (is : List Insn) → spelling_of_all (i ∷ is) ≡ [] → ⊥
spelling_of_all-some i is e =
    let cons : spelling i ++ spelling_of_all is ≡ [] = sym (flat_map-cons spelling i is) ∙ e in
    let none : length (spelling i ++ spelling_of_all is) ≡ 0 = ap length cons in
    absurd (omega arith)

-- bytes spell one list of instructions at most
spelling_of_all-injective : (p q : List Insn) → AreInstructions p → AreInstructions q → spelling_of_all p ≡ spelling_of_all q → p ≡ q
spelling_of_all-injective [] [] is-p is-q e = refl
spelling_of_all-injective [] (j ∷ q) is-p is-q e = absurd (spelling_of_all-some j q (sym e))
spelling_of_all-injective (i ∷ p) [] is-p is-q e = absurd (spelling_of_all-some i p e)
spelling_of_all-injective (i ∷ p) (j ∷ q) is-p is-q e =
    let both : spelling i ++ spelling_of_all p ≡ spelling j ++ spelling_of_all q = sym (flat_map-cons spelling i p) ∙ e ∙ flat_map-cons spelling j q in
    let first = spelling-first i j (spelling_of_all p) (spelling_of_all q) is-p.0 is-q.0 both in
    let rest = spelling_of_all-injective p q is-p.1 is-q.1 first.1 in
    let same = first.0 in
    cc

-- so bytes spell one program at most
pub spelled_once : (text : List ℕ) (p q : List Insn) → Spells text p → Spells text q → p ≡ q
spelled_once text p q first second = spelling_of_all-injective p q first.fits second.fits (sym first.bytes ∙ second.bytes)
