-- The fields of instructions fit, have no fault, and determine the instruction.
use Rattle.std.proofs.Common.{◌≡◌, ℕ, ◌/◌, ◌%◌, ◌^◌, ◌<◌, ◌≤◌, Bool, false, true, ◌&&◌, not, List, [], ◌++◌, Option, Some, None, refl, sym, ap, ◌∙◌, arith, ℤ, pos}
use Rattle.std.specs.Prelude.{nat_eq, nat_lt}
use Rattle.std.specs.Ordering.{int_eq}
use Rattle.std.proofs.lemmas.Bool.Decides.{nat_tests}
use Rattle.std.proofs.lemmas.List.{append-nil}
use Rattle.bpf_model.specs.declared.operations.Width.{Width}
use Rattle.bpf_model.specs.declared.operations.Width.TheVariants.{W32, W64}
use Rattle.bpf_model.specs.declared.operations.SignExtension.{SignExtension}
use Rattle.bpf_model.specs.declared.operations.SignExtension.TheVariants.{From8To32, From16To32, From8To64, From16To64, From32To64}
use Rattle.bpf_model.specs.declared.operations.SwapWidth.{SwapWidth}
use Rattle.bpf_model.specs.declared.operations.SwapWidth.TheVariants.{S16, S32, S64}
use Rattle.bpf_model.specs.declared.instruction.Operand.{Operand}
use Rattle.bpf_model.specs.declared.instruction.Operand.TheVariants.{Register, Immediate}
use Rattle.bpf_model.specs.declared.instruction.Insn.{Insn}
use Rattle.bpf_model.specs.declared.instruction.Insn.TheVariants.{Alu, Negate, Mov, SignExtend, Reorder, Wide, Load, Store, Jump, JumpLong, Branch, Exit}
use Rattle.bpf_model.specs.Words.{IsWord}
use Rattle.bpf_model.specs.Program.{units_of}
use Rattle.bpf_model.specs.Arithmetic.{swap_bits, extension_width, extension_bits}
use Rattle.bpf_model.specs.Accesses.{loaded_size}
use Rattle.bpf_model.specs.Spelling.{Fields, opcode, access_opcode, class_ldx, alu_class, jump_class, store_class, source_k, source_x, source_bit, src_of, code_of, neg_code, mov_code, end_code, test_code, size_code, mode_mem, mode_of, order_source, order_width, unit_bytes, fields_of, second_unit, second_bytes, spelling, IsInstruction, IsOperand}
use Rattle.bpf_model.proofs.UnitLaws as laws
use Rattle.bpf_model.proofs.UnitLaws.{zero_offset, half_fits}
use Rattle.bpf_decode.specs.declared.opcode.Source.{Source}
use Rattle.bpf_decode.specs.declared.opcode.Source.TheVariants.{Immediate as K, Register as X}
use Rattle.bpf_decode.specs.declared.opcode.Opcode.{Opcode}
use Rattle.bpf_decode.specs.declared.opcode.Opcode.TheVariants as op
use Rattle.bpf_decode.specs.declared.unit.UsedFields.{UsedFields}
use Rattle.bpf_decode.specs.Opcodes.{used_fields}
use Rattle.bpf_decode.specs.UnitFaults.{FitUnit, has_bad_register, has_unused_not_zero, has_bad_width, fault_under, unit_fault, is_move, is_swap}
use Rattle.bpf_decode.specs.OpcodeFields.{opcode_byte, used_by, AreOperands, IsRegisterIfUsed, IsZeroUnlessUsed}
use Rattle.bpf_decode.proofs.OpcodeLemmas.{order_source-bounded, alu_class-bounded, jump_class-bounded, size_code-bounded, mode_of-bounded, AluFacts, alu_facts, test_code-bounded, class_in-jump, class_in-access, used_fields-byte_of, good_sign, good_move, good_order, good_negation, no_width, no_width_of_jump}

-- the source and the register of an operand fit their bits
pub source_of-bounded : (s : Operand) → source_bit s < 2
source_of-bounded (Register r) = omega arith
source_of-bounded (Immediate imm) = omega arith

src_of-register : (s : Operand) → IsOperand s → src_of s ≤ 10
src_of-register (Register r) h = h
src_of-register (Immediate imm) h = omega arith

pub store_class-bounded : (s : Operand) → store_class s < 8
store_class-bounded (Register r) = omega arith
store_class-bounded (Immediate imm) = omega arith

-- if an opcode's parts fit their bits, so does the opcode
opcode-fits : (code source class : ℕ) → code < 16 → source < 2 → class < 8 → opcode code source class < 2 ^ 8
opcode-fits code source class h g k = omega (arith, h, g, k)

access_opcode-fits : (mode size class : ℕ) → mode < 8 → size < 4 → class < 8 → access_opcode mode size class < 2 ^ 8
access_opcode-fits mode size class h g k = omega (arith, h, g, k)

-- the opcode of an instruction fits its bits
opcode-bounded : (i : Insn) → (fields_of i).opcode < 2 ^ 8
opcode-bounded (Alu op w dst src) = opcode-fits (code_of op) (source_bit src) (alu_class w) (AluFacts.bounded (alu_facts op)) (source_of-bounded src) (alu_class-bounded w)
opcode-bounded (Negate w dst) = opcode-fits neg_code source_k (alu_class w) (omega arith) (omega arith) (alu_class-bounded w)
opcode-bounded (Mov w dst src) = opcode-fits mov_code (source_bit src) (alu_class w) (omega arith) (source_of-bounded src) (alu_class-bounded w)
opcode-bounded (SignExtend e dst src) = opcode-fits mov_code source_x (alu_class (extension_width e)) (omega arith) (omega arith) (alu_class-bounded (extension_width e))
opcode-bounded (Reorder order size dst) = opcode-fits end_code (order_source order) (alu_class (order_width order)) (omega arith) (order_source-bounded order) (alu_class-bounded (order_width order))
opcode-bounded (Wide dst value) = omega arith
opcode-bounded (Load kind dst src offset) = access_opcode-fits (mode_of kind) (size_code (loaded_size kind)) class_ldx (mode_of-bounded kind) (size_code-bounded (loaded_size kind)) (omega arith)
opcode-bounded (Store size dst src offset) = access_opcode-fits mode_mem (size_code size) (store_class src) (omega arith) (size_code-bounded size) (store_class-bounded src)
opcode-bounded (Jump distance) = omega arith
opcode-bounded (JumpLong distance) = omega arith
opcode-bounded (Branch test w dst src distance) = opcode-fits (test_code test) (source_bit src) (jump_class w) (test_code-bounded test) (source_of-bounded src) (jump_class-bounded w)
opcode-bounded Exit = omega arith

-- the source field of an instruction fits its bits
src-bounded : (i : Insn) → IsInstruction i → (fields_of i).src < 2 ^ 4
src-bounded (Alu op w dst src) h = omega (arith, src_of-register src h.1)
src-bounded (Mov w dst src) h = omega (arith, src_of-register src h.1)
src-bounded (SignExtend e dst src) h = omega (arith, h.1)
src-bounded (Load kind dst src offset) h = omega (arith, h.1)
src-bounded (Store size dst src offset) h = omega (arith, src_of-register src h.1)
src-bounded (Branch test w dst src distance) h = omega (arith, src_of-register src h.1)
src-bounded i h = omega arith

-- the fields of an instruction fit their bits
pub fit-fields_of : (i : Insn) → IsInstruction i → FitUnit (fields_of i)
fit-fields_of i h =
    let fit = laws.fit-fields_of i h in
    record { opcode = opcode-bounded i; dst = fit.dst; src = src-bounded i h; offset = fit.offset; imm = fit.imm }

-- so does the second unit of a wide instruction
pub fit-second_unit : (value : ℕ) → IsWord value → FitUnit (second_unit value)
fit-second_unit value h = record { opcode = omega arith; dst = omega arith; src = omega arith; offset = zero_offset; imm = half_fits (value / 2 ^ 32) (omega (arith, h)) }

-- an instruction's opcode
source_of_operand : Operand → Source
source_of_operand (Register r) = X
source_of_operand (Immediate imm) = K

opcode_of : Insn → Opcode
opcode_of (Alu o w dst src) = op.Alu o (source_of_operand src) w
opcode_of (Negate w dst) = op.Negate w
opcode_of (Mov w dst src) = op.Mov (source_of_operand src) w
opcode_of (SignExtend e dst src) = op.Mov X (extension_width e)
opcode_of (Reorder order size dst) = op.Reorder order
opcode_of (Wide dst value) = op.Wide
opcode_of (Load kind dst src offset) = op.Load kind
opcode_of (Store size dst src offset) = op.Store (source_of_operand src) size
opcode_of (Jump distance) = op.Jump
opcode_of (JumpLong distance) = op.JumpLong
opcode_of (Branch test w dst src distance) = op.Branch test (source_of_operand src) w
opcode_of Exit = op.Exit

byte_of-opcode_of : (i : Insn) → opcode_byte (opcode_of i) ≡ (fields_of i).opcode
unfolding opcode_of source_of_operand
byte_of-opcode_of (Alu o w dst (Register r)) = refl
byte_of-opcode_of (Alu o w dst (Immediate imm)) = refl
byte_of-opcode_of (Negate w dst) = refl
byte_of-opcode_of (Mov w dst (Register r)) = refl
byte_of-opcode_of (Mov w dst (Immediate imm)) = refl
byte_of-opcode_of (SignExtend e dst src) = refl
byte_of-opcode_of (Reorder order size dst) = refl
byte_of-opcode_of (Wide dst value) = refl
byte_of-opcode_of (Load kind dst src offset) = refl
byte_of-opcode_of (Store size dst (Register r) offset) = refl
byte_of-opcode_of (Store size dst (Immediate imm) offset) = refl
byte_of-opcode_of (Jump distance) = refl
byte_of-opcode_of (JumpLong distance) = refl
byte_of-opcode_of (Branch test w dst (Register r) distance) = refl
byte_of-opcode_of (Branch test w dst (Immediate imm) distance) = refl
byte_of-opcode_of Exit = refl

-- its fields are operands of its opcode
operands-fields_of : (i : Insn) → IsInstruction i → AreOperands (used_by (opcode_of i)) (fields_of i)
unfolding opcode_of source_of_operand
operands-fields_of (Alu o w dst (Register r)) h = record { dst = h.0; src = h.1; offset = AluFacts.sign (alu_facts o); imm = refl }
operands-fields_of (Alu o w dst (Immediate imm)) h = record { dst = h.0; src = refl; offset = AluFacts.sign (alu_facts o); imm = tt }
operands-fields_of (Negate w dst) h = record { dst = h; src = refl; offset = refl; imm = refl }
operands-fields_of (Mov w dst (Register r)) h = record { dst = h.0; src = h.1; offset = tt; imm = refl }
operands-fields_of (Mov w dst (Immediate imm)) h = record { dst = h.0; src = refl; offset = refl; imm = tt }
operands-fields_of (SignExtend e dst src) h = record { dst = h.0; src = h.1; offset = tt; imm = refl }
operands-fields_of (Reorder order size dst) h = record { dst = h; src = refl; offset = refl; imm = tt }
operands-fields_of (Wide dst value) h = record { dst = h.0; src = refl; offset = refl; imm = tt }
operands-fields_of (Load kind dst src offset) h = record { dst = h.0; src = h.1; offset = tt; imm = refl }
operands-fields_of (Store size dst (Register r) offset) h = record { dst = h.0; src = h.1; offset = tt; imm = refl }
operands-fields_of (Store size dst (Immediate imm) offset) h = record { dst = h.0; src = refl; offset = tt; imm = tt }
operands-fields_of (Jump distance) h = record { dst = refl; src = refl; offset = tt; imm = refl }
operands-fields_of (JumpLong distance) h = record { dst = refl; src = refl; offset = refl; imm = tt }
operands-fields_of (Branch test w dst (Register r) distance) h = record { dst = h.0; src = h.1; offset = tt; imm = refl }
operands-fields_of (Branch test w dst (Immediate imm) distance) h = record { dst = h.0; src = refl; offset = tt; imm = tt }
operands-fields_of Exit h = record { dst = refl; src = refl; offset = refl; imm = refl }

-- the bits of an extension are a valid width of moves, and those of a byte order a valid width of byte orders
extension_bits-move : (e : SignExtension) → is_move (extension_width e) (pos (extension_bits e)) ≡ true
extension_bits-move From8To32 = refl
extension_bits-move From16To32 = refl
extension_bits-move From8To64 = refl
extension_bits-move From16To64 = refl
extension_bits-move From32To64 = refl

swap_bits-swap : (size : SwapWidth) → is_swap (pos (swap_bits size)) ≡ true
swap_bits-swap S16 = refl
swap_bits-swap S32 = refl
swap_bits-swap S64 = refl

zero_is_move : (w : Width) → is_move w (pos 0) ≡ true
zero_is_move W32 = refl
zero_is_move W64 = refl

low_class : (n class : ℕ) → n % 8 ≡ class → class < 4 → n % 8 < 4
low_class n class e h = omega (arith, e, h)

store_class-low : (s : Operand) → store_class s < 4
store_class-low (Register r) = omega arith
store_class-low (Immediate imm) = omega arith

-- and their widths are widths
width-fields_of : (i : Insn) → has_bad_width (fields_of i) ≡ false
width-fields_of (Alu o w dst src) = good_sign (fields_of (Alu o w dst src)) o (source_bit src) w (source_of-bounded src) refl (AluFacts.signed (alu_facts o))
width-fields_of (Negate w dst) = good_negation (fields_of (Negate w dst)) w refl
width-fields_of (Mov w dst src) = good_move (fields_of (Mov w dst src)) (source_bit src) w (source_of-bounded src) refl (zero_is_move w)
width-fields_of (SignExtend e dst src) = good_move (fields_of (SignExtend e dst src)) source_x (extension_width e) (omega arith) refl (extension_bits-move e)
width-fields_of (Reorder order size dst) = good_order (fields_of (Reorder order size dst)) (order_source order) (order_width order) (order_source-bounded order) refl (swap_bits-swap size)
width-fields_of (Wide dst value) = refl
width-fields_of (Load kind dst src offset) = no_width (fields_of (Load kind dst src offset)) (low_class _ class_ldx (class_in-access (mode_of kind) (size_code (loaded_size kind)) class_ldx (size_code-bounded (loaded_size kind)) (omega arith)) (omega arith))
width-fields_of (Store size dst src offset) = no_width (fields_of (Store size dst src offset)) (low_class _ (store_class src) (class_in-access mode_mem (size_code size) (store_class src) (size_code-bounded size) (store_class-bounded src)) (store_class-low src))
width-fields_of (Jump distance) = refl
width-fields_of (JumpLong distance) = refl
width-fields_of (Branch test w dst src distance) = no_width_of_jump (fields_of (Branch test w dst src distance)) w (class_in-jump (test_code test) (source_bit src) w (source_of-bounded src))
width-fields_of Exit = refl

-- fields that are operands have no fault but a bad width
pub operands_have_no_fault : (used : UsedFields) (f : Fields) → AreOperands used f → (has_bad_register used f ≡ false) × (has_unused_not_zero used f ≡ false)
operands_have_no_fault used f h =
    let dst = register_tests used.dst f.dst h.dst in
    let src = register_tests used.src f.src h.src in
    (rw (dst.0, src.0) refl, rw (dst.1, src.1, zero_test used.offset f.offset h.offset, zero_test used.imm f.imm h.imm) refl)
  where
    register_tests : (used : Bool) (n : ℕ) → IsRegisterIfUsed used n → ((used && nat_lt 10 n) ≡ false) × ((not used && not (nat_eq n 0)) ≡ false)
    register_tests true n h = (grind (arith, nat_tests), refl)
    register_tests false n h = (refl, rw h refl)

    zero_test : (used : Bool) (z : ℤ) → IsZeroUnlessUsed used z → (not used && not (int_eq z (pos 0))) ≡ false
    zero_test true z h = refl
    zero_test false z h = rw h refl

-- the fields of an instruction have no fault
pub fault_of-fields_of : (i : Insn) → IsInstruction i → unit_fault (fields_of i) ≡ None
fault_of-fields_of i h =
    let used : used_fields (fields_of i).opcode ≡ Some (used_by (opcode_of i)) = ap used_fields (sym (byte_of-opcode_of i)) ∙ used_fields-byte_of (opcode_of i) in
    let clean = operands_have_no_fault (used_by (opcode_of i)) (fields_of i) (operands-fields_of i h) in
    ap (λ (u : Option UsedFields). fault_under u (fields_of i)) used ∙ rw (clean.0, clean.1, width-fields_of i) refl

-- an instruction of one unit whose registers and fields fit is one
pub is_instruction : (i : Insn) → (fields_of i).dst ≤ 10 → (fields_of i).src ≤ 10 → FitUnit (fields_of i) → units_of i ≡ 1 → IsInstruction i
is_instruction (Alu o w dst (Register r)) d s fit one = (d, s)
is_instruction (Alu o w dst (Immediate imm)) d s fit one = (d, fit.imm)
is_instruction (Negate w dst) d s fit one = d
is_instruction (Mov w dst (Register r)) d s fit one = (d, s)
is_instruction (Mov w dst (Immediate imm)) d s fit one = (d, fit.imm)
is_instruction (SignExtend e dst src) d s fit one = (d, s)
is_instruction (Reorder order size dst) d s fit one = d
is_instruction (Wide dst value) d s fit one = absurd (omega (arith, one))
is_instruction (Load kind dst src offset) d s fit one = (d, s, fit.offset)
is_instruction (Store size dst (Register r) offset) d s fit one = (d, s, fit.offset)
is_instruction (Store size dst (Immediate imm) offset) d s fit one = (d, fit.imm, fit.offset)
is_instruction (Jump distance) d s fit one = fit.offset
is_instruction (JumpLong distance) d s fit one = fit.imm
is_instruction (Branch test w dst (Register r) distance) d s fit one = (d, s, fit.offset)
is_instruction (Branch test w dst (Immediate imm) distance) d s fit one = (d, fit.imm, fit.offset)
is_instruction Exit d s fit one = tt

-- an instruction that is not wide has one unit, and no second
pub one_unit : (i : Insn) → ((dst value : ℕ) → i ≡ Wide dst value → ⊥) → (units_of i ≡ 1) × (second_bytes i ≡ [])
one_unit (Alu o w dst src) n = (refl, refl)
one_unit (Negate w dst) n = (refl, refl)
one_unit (Mov w dst src) n = (refl, refl)
one_unit (SignExtend e dst src) n = (refl, refl)
one_unit (Reorder order size dst) n = (refl, refl)
one_unit (Wide dst value) n = absurd (n dst value refl)
one_unit (Load kind dst src offset) n = (refl, refl)
one_unit (Store size dst src offset) n = (refl, refl)
one_unit (Jump distance) n = (refl, refl)
one_unit (JumpLong distance) n = (refl, refl)
one_unit (Branch test w dst src distance) n = (refl, refl)
one_unit Exit n = (refl, refl)

-- so its spelling is one unit's
pub one_unit_spelled : (i : Insn) (bytes : List ℕ) → ((dst value : ℕ) → i ≡ Wide dst value → ⊥) → bytes ≡ unit_bytes (fields_of i) → bytes ≡ spelling i
one_unit_spelled i bytes n e = e ∙ sym (ap (λ (x : List ℕ). unit_bytes (fields_of i) ++ x) (one_unit i n).1 ∙ append-nil (unit_bytes (fields_of i)))
