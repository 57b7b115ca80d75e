-- The instruction that has these fields: fields belong to one instruction at most.
use Rattle.std.proofs.Common.{◌≡◌, ℕ, ◌+◌, ◌*◌, ◌/◌, ◌%◌, ◌^◌, ◌<◌, ◌≤◌, false, [], ◌∷◌, get_or, ℤ, pos, refl, ap, ◌∙◌, arith}
use Rattle.std.specs.Prelude.{nat_eq, filter, unsigned_abs, if◌then◌else◌}
use Rattle.std.specs.Int.{w32, cast_signed, cast_unsigned}
use Rattle.std.proofs.lemmas.Int.{of_z-to_z}
use Rattle.bpf_model.specs.declared.operations.AluOp.{AluOp}
use Rattle.bpf_model.specs.declared.operations.AluOp.TheVariants.{Add}
use Rattle.bpf_model.specs.declared.operations.Width.{Width}
use Rattle.bpf_model.specs.declared.operations.Width.TheVariants.{W32, W64}
use Rattle.bpf_model.specs.declared.operations.SignExtension.{SignExtension}
use Rattle.bpf_model.specs.declared.operations.SignExtension.TheVariants.{From8To32, From16To32, From8To64, From16To64, From32To64}
use Rattle.bpf_model.specs.declared.operations.ByteOrder.{ByteOrder}
use Rattle.bpf_model.specs.declared.operations.ByteOrder.TheVariants.{Little, Big, Swap}
use Rattle.bpf_model.specs.declared.operations.SwapWidth.{SwapWidth}
use Rattle.bpf_model.specs.declared.operations.SwapWidth.TheVariants.{S16, S32, S64}
use Rattle.bpf_model.specs.declared.conditions.JumpOp.{JumpOp}
use Rattle.bpf_model.specs.declared.conditions.JumpOp.TheVariants.{Eq, Gt, Ge, Set, Ne, SGt, SGe, Lt, Le, SLt, SLe}
use Rattle.bpf_model.specs.declared.accesses.AccessSize.{AccessSize}
use Rattle.bpf_model.specs.declared.accesses.AccessSize.TheVariants.{Byte, HalfWord, Word, DoubleWord}
use Rattle.bpf_model.specs.declared.accesses.LoadKind.{LoadKind}
use Rattle.bpf_model.specs.declared.accesses.LoadKind.TheVariants.{Byte as LoadByte, HalfWord as LoadHalfWord, Word as LoadWord, DoubleWord as LoadDoubleWord, SignedByte, SignedHalfWord, SignedWord}
use Rattle.bpf_model.specs.declared.instruction.Operand.{Operand}
use Rattle.bpf_model.specs.declared.instruction.Operand.TheVariants.{Register, Immediate}
use Rattle.bpf_model.specs.declared.instruction.Insn.{Insn}
use Rattle.bpf_model.specs.declared.instruction.Insn.TheVariants.{Alu, Negate, Mov, SignExtend, Reorder, Wide, Load, Store, Jump, JumpLong, Branch, Exit}
use Rattle.bpf_model.specs.Spelling.{Fields, opcode, alu_class, jump_class, source_bit, src_of, imm_of, code_of, alu_ops, offset_of, test_code, fields_of}

operand_of : ℕ → Fields → Operand
operand_of source f = if nat_eq source 0 then Immediate f.imm else Register f.src

op_of : ℕ → ℤ → AluOp
op_of code offset = get_or (filter (λ op. if nat_eq (code_of op) code then nat_eq (unsigned_abs (offset_of op)) (unsigned_abs offset) else false) alu_ops) 0 Add

test_of : ℕ → JumpOp
test_of code = get_or (Eq ∷ Eq ∷ Gt ∷ Ge ∷ Set ∷ Ne ∷ SGt ∷ SGe ∷ Eq ∷ Eq ∷ Lt ∷ Le ∷ SLt ∷ SLe ∷ []) code Eq

size_of : ℕ → AccessSize
size_of code = get_or (Word ∷ HalfWord ∷ Byte ∷ DoubleWord ∷ []) code Word

kind_of : ℕ → ℕ → LoadKind
kind_of mode size =
    if nat_eq mode 3 then get_or (LoadWord ∷ LoadHalfWord ∷ LoadByte ∷ LoadDoubleWord ∷ []) size LoadWord
    else get_or (SignedWord ∷ SignedHalfWord ∷ SignedByte ∷ []) size SignedWord

-- by the number of bits
extension_of : Width → ℕ → SignExtension
extension_of W32 bits = if nat_eq bits 8 then From8To32 else From16To32
extension_of W64 bits = if nat_eq bits 8 then From8To64 else (if nat_eq bits 16 then From16To64 else From32To64)

order_of : Width → ℕ → ByteOrder
order_of W32 source = if nat_eq source 0 then Little else Big
order_of W64 source = Swap

swap_of : ℕ → SwapWidth
swap_of bits = if nat_eq bits 16 then S16 else (if nat_eq bits 32 then S32 else S64)

-- a move whose offset is not zero extends a sign
mov_insn : Width → ℕ → Fields → Insn
mov_insn width source f =
    if nat_eq (unsigned_abs f.offset) 0 then Mov width f.dst (operand_of source f)
    else SignExtend (extension_of width (unsigned_abs f.offset)) f.dst f.src

alu_insn : Width → ℕ → ℕ → Fields → Insn
alu_insn width code source f =
    if nat_eq code 8 then Negate width f.dst
    else (if nat_eq code 11 then mov_insn width source f
    else (if nat_eq code 13 then Reorder (order_of width source) (swap_of (unsigned_abs f.imm)) f.dst
    else Alu (op_of code f.offset) width f.dst (operand_of source f)))

ja_insn : Width → Fields → Insn
ja_insn W32 f = JumpLong f.imm
ja_insn W64 f = Jump f.offset

jump_insn : Width → ℕ → ℕ → Fields → Insn
jump_insn width code source f =
    if nat_eq code 0 then ja_insn width f
    else (if nat_eq code 9 then Exit
    else Branch (test_of code) width f.dst (operand_of source f) f.offset)

-- by the class, the code and the source of the opcode; a wide instruction's upper half is elsewhere
by_parts : ℕ → ℕ → ℕ → Fields → ℕ → Insn
by_parts class code source f upper =
    if nat_eq class 0 then Wide f.dst (cast_unsigned w32 f.imm + 2 ^ 32 * upper)
    else (if nat_eq class 1 then Load (kind_of (f.opcode / 32) (f.opcode / 8 % 4)) f.dst f.src f.offset
    else (if nat_eq class 2 then Store (size_of (f.opcode / 8 % 4)) f.dst (Immediate f.imm) f.offset
    else (if nat_eq class 3 then Store (size_of (f.opcode / 8 % 4)) f.dst (Register f.src) f.offset
    else (if nat_eq class 4 then alu_insn W32 code source f
    else (if nat_eq class 5 then jump_insn W64 code source f
    else (if nat_eq class 6 then jump_insn W32 code source f
    else alu_insn W64 code source f))))))

pub insn_of : Fields → ℕ → Insn
insn_of f upper = by_parts (f.opcode % 8) (f.opcode / 16) (f.opcode / 8 % 2) f upper

unfoldable pub upper_half : Insn → ℕ
upper_half (Wide dst value) = value / 2 ^ 32
upper_half i = 0

-- ---- each instruction is the one with its fields

pub opcode_parts : (code source class : ℕ) → source ≤ 1 → class < 8 → (opcode code source class % 8 ≡ class) × (opcode code source class / 16 ≡ code) × (opcode code source class / 8 % 2 ≡ source)
opcode_parts code source class h k = (omega (arith, h, k), omega (arith, h, k), omega (arith, h, k))

pub source_small : (src : Operand) → source_bit src ≤ 1
source_small (Register r) = omega arith
source_small (Immediate imm) = omega arith

pub alu_class_small : (width : Width) → alu_class width < 8
alu_class_small W32 = omega arith
alu_class_small W64 = omega arith

pub jump_class_small : (width : Width) → jump_class width < 8
jump_class_small W32 = omega arith
jump_class_small W64 = omega arith

-- the fields whose opcode has these parts
parts_of : (code source class : ℕ) (f : Fields) (upper : ℕ) → source ≤ 1 → class < 8 → f.opcode ≡ opcode code source class → insn_of f upper ≡ by_parts class code source f upper
unfolding insn_of
parts_of code source class f upper h k e =
    let parts = opcode_parts code source class h k in
    let is_class : f.opcode % 8 ≡ class = ap (λ (n : ℕ). n % 8) e ∙ parts.0 in
    let is_code : f.opcode / 16 ≡ code = ap (λ (n : ℕ). n / 16) e ∙ parts.1 in
    let is_source : f.opcode / 8 % 2 ≡ source = ap (λ (n : ℕ). n / 8 % 2) e ∙ parts.2 in
    ap (λ (n : ℕ). by_parts n (f.opcode / 16) (f.opcode / 8 % 2) f upper) is_class
    ∙ ap (λ (n : ℕ). by_parts class n (f.opcode / 8 % 2) f upper) is_code
    ∙ ap (λ (n : ℕ). by_parts class code n f upper) is_source

at_alu_class : (width : Width) (code source : ℕ) (f : Fields) → by_parts (alu_class width) code source f 0 ≡ alu_insn width code source f
unfolding by_parts
at_alu_class W32 code source f = refl
at_alu_class W64 code source f = refl

at_jump_class : (width : Width) (code source : ℕ) (f : Fields) → by_parts (jump_class width) code source f 0 ≡ jump_insn width code source f
unfolding by_parts
at_jump_class W32 code source f = refl
at_jump_class W64 code source f = refl

at_code : (op : AluOp) (width : Width) (source : ℕ) (f : Fields) → alu_insn width (code_of op) source f ≡ Alu (op_of (code_of op) f.offset) width f.dst (operand_of source f)
unfolding alu_insn
at_code Add width source f = refl
at_code op width source f = refl

op_again : (op : AluOp) → op_of (code_of op) (offset_of op) ≡ op
unfolding op_of
op_again Add = refl
op_again op = refl

at_test_code : (test : JumpOp) (width : Width) (source : ℕ) (f : Fields) → jump_insn width (test_code test) source f ≡ Branch test width f.dst (operand_of source f) f.offset
unfolding jump_insn test_of
at_test_code Eq width source f = refl
at_test_code test width source f = refl

operand_again : (src : Operand) (op dst : ℕ) (offset : ℤ) → operand_of (source_bit src) (record { opcode = op; dst = dst; src = src_of src; offset = offset; imm = imm_of src }) ≡ src
unfolding operand_of
operand_again (Register r) op dst offset = refl
operand_again (Immediate imm) op dst offset = refl

value_again : (value : ℕ) → cast_unsigned w32 (cast_signed w32 (value % 2 ^ 32)) + 2 ^ 32 * (value / 2 ^ 32) ≡ value
value_again value = omega (arith, of_z-to_z w32 (value % 2 ^ 32) (omega arith))

pub insn_of-fields_of : (i : Insn) → insn_of (fields_of i) (upper_half i) ≡ i
unfolding upper_half insn_of by_parts alu_insn jump_insn ja_insn mov_insn kind_of size_of extension_of order_of swap_of
insn_of-fields_of (Alu op width dst src) =
    let f = fields_of (Alu op width dst src) in
    parts_of (code_of op) (source_bit src) (alu_class width) f 0 (source_small src) (alu_class_small width) refl
    ∙ at_alu_class width (code_of op) (source_bit src) f
    ∙ at_code op width (source_bit src) f
    ∙ ap (λ (o : AluOp). Alu o width dst (operand_of (source_bit src) f)) (op_again op)
    ∙ ap (Alu op width dst) (operand_again src f.opcode dst (offset_of op))
insn_of-fields_of (Negate W32 dst) = refl
insn_of-fields_of (Negate W64 dst) = refl
insn_of-fields_of (Mov width dst src) =
    let f = fields_of (Mov width dst src) in
    parts_of 11 (source_bit src) (alu_class width) f 0 (source_small src) (alu_class_small width) refl
    ∙ at_alu_class width 11 (source_bit src) f
    ∙ ap (Mov width dst) (operand_again src f.opcode dst (pos 0))
insn_of-fields_of (SignExtend From8To32 dst src) = refl
insn_of-fields_of (SignExtend From16To32 dst src) = refl
insn_of-fields_of (SignExtend From8To64 dst src) = refl
insn_of-fields_of (SignExtend From16To64 dst src) = refl
insn_of-fields_of (SignExtend From32To64 dst src) = refl
insn_of-fields_of (Reorder Little S16 dst) = refl
insn_of-fields_of (Reorder Little S32 dst) = refl
insn_of-fields_of (Reorder Little S64 dst) = refl
insn_of-fields_of (Reorder Big S16 dst) = refl
insn_of-fields_of (Reorder Big S32 dst) = refl
insn_of-fields_of (Reorder Big S64 dst) = refl
insn_of-fields_of (Reorder Swap S16 dst) = refl
insn_of-fields_of (Reorder Swap S32 dst) = refl
insn_of-fields_of (Reorder Swap S64 dst) = refl
insn_of-fields_of (Wide dst value) = ap (Wide dst) (value_again value)
insn_of-fields_of (Load LoadByte dst src offset) = refl
insn_of-fields_of (Load LoadHalfWord dst src offset) = refl
insn_of-fields_of (Load LoadWord dst src offset) = refl
insn_of-fields_of (Load LoadDoubleWord dst src offset) = refl
insn_of-fields_of (Load SignedByte dst src offset) = refl
insn_of-fields_of (Load SignedHalfWord dst src offset) = refl
insn_of-fields_of (Load SignedWord dst src offset) = refl
insn_of-fields_of (Store Byte dst (Register r) offset) = refl
insn_of-fields_of (Store Byte dst (Immediate imm) offset) = refl
insn_of-fields_of (Store HalfWord dst (Register r) offset) = refl
insn_of-fields_of (Store HalfWord dst (Immediate imm) offset) = refl
insn_of-fields_of (Store Word dst (Register r) offset) = refl
insn_of-fields_of (Store Word dst (Immediate imm) offset) = refl
insn_of-fields_of (Store DoubleWord dst (Register r) offset) = refl
insn_of-fields_of (Store DoubleWord dst (Immediate imm) offset) = refl
insn_of-fields_of (Jump distance) = refl
insn_of-fields_of (JumpLong distance) = refl
insn_of-fields_of (Branch test width dst src distance) =
    let f = fields_of (Branch test width dst src distance) in
    parts_of (test_code test) (source_bit src) (jump_class width) f 0 (source_small src) (jump_class_small width) refl
    ∙ at_jump_class width (test_code test) (source_bit src) f
    ∙ at_test_code test width (source_bit src) f
    ∙ ap (λ (o : Operand). Branch test width dst o distance) (operand_again src f.opcode dst distance)
insn_of-fields_of Exit = refl
