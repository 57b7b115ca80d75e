-- How instructions and programs are spelled in bytes. RFC 9669, sections 3 to 5.
use Rattle.std.specs.Prelude.{◌≡◌, ℕ, ◌+◌, ◌*◌, ◌/◌, ◌%◌, ◌^◌, ◌≤◌, List, [], ◌∷◌, ◌++◌, ℤ, pos, FitsSigned}
use Rattle.std.specs.List.{flat_map, AllByRecursion}
use Rattle.std.specs.Int.{w16, w32, cast_unsigned, cast_signed}
use Rattle.bpf_model.specs.declared.operations.AluOp.{AluOp}
use Rattle.bpf_model.specs.declared.operations.AluOp.TheVariants.{Add, Sub, Mul, Div, SDiv, Or, And, Lsh, Rsh, Mod, SMod, Xor, Arsh}
use Rattle.bpf_model.specs.declared.operations.Width.{Width}
use Rattle.bpf_model.specs.declared.operations.Width.TheVariants.{W32, W64}
use Rattle.bpf_model.specs.declared.operations.ByteOrder.{ByteOrder}
use Rattle.bpf_model.specs.declared.operations.ByteOrder.TheVariants.{Little, Big, Swap}
use Rattle.bpf_model.specs.declared.conditions.JumpOp.{JumpOp}
use Rattle.bpf_model.specs.declared.conditions.JumpOp.TheVariants.{Eq, Gt, Ge, Set, Ne, SGt, SGe, Lt, Le, SLt, SLe}
use Rattle.bpf_model.specs.declared.accesses.AccessSize.{AccessSize}
use Rattle.bpf_model.specs.declared.accesses.AccessSize.TheVariants.{Byte, HalfWord, Word, DoubleWord}
use Rattle.bpf_model.specs.declared.accesses.LoadKind.{LoadKind}
use Rattle.bpf_model.specs.declared.accesses.LoadKind.TheVariants.{Byte as LoadByte, HalfWord as LoadHalfWord, Word as LoadWord, DoubleWord as LoadDoubleWord, SignedByte, SignedHalfWord, SignedWord}
use Rattle.bpf_model.specs.declared.instruction.Operand.{Operand}
use Rattle.bpf_model.specs.declared.instruction.Operand.TheVariants.{Register, Immediate}
use Rattle.bpf_model.specs.declared.instruction.Insn.{Insn}
use Rattle.bpf_model.specs.declared.instruction.Insn.TheVariants.{Alu, Negate, Mov, SignExtend, Reorder, Wide, Load, Store, Jump, JumpLong, Branch, Exit}
use Rattle.bpf_model.specs.Words.{IsWord, bytes_of}
use Rattle.bpf_model.specs.Arithmetic.{swap_bits, extension_width, extension_bits}
use Rattle.bpf_model.specs.Accesses.{loaded_size}
use Rattle.bpf_model.specs.Program.{IsProgram}

-- the fields of a unit
pub record Fields : Type 0 where
  pub opcode : ℕ
  pub dst : ℕ
  pub src : ℕ
  pub offset : ℤ
  pub imm : ℤ

-- the eight bytes of a unit: both registers share a byte, numbers are little-endian
abbrev pub unit_bytes : Fields → List ℕ
unit_bytes f = f.opcode ∷ (16 * f.src + f.dst) ∷ (bytes_of 2 (cast_unsigned w16 f.offset) ++ bytes_of 4 (cast_unsigned w32 f.imm))

-- an opcode of arithmetic and jumps: four bits of code, one of source, three of class
abbrev pub opcode : ℕ → ℕ → ℕ → ℕ
opcode code source class = 16 * code + 8 * source + class

-- an opcode of loads and stores: three bits of mode, two of size, three of class
abbrev pub access_opcode : ℕ → ℕ → ℕ → ℕ
access_opcode mode size class = 32 * mode + 8 * size + class

-- classes
abbrev pub class_ld : ℕ
class_ld = 0

abbrev pub class_ldx : ℕ
class_ldx = 1

abbrev pub class_st : ℕ
class_st = 2

abbrev pub class_stx : ℕ
class_stx = 3

-- arithmetic at a width: ALU and ALU64
abbrev pub alu_class : Width → ℕ
alu_class W32 = 4
alu_class W64 = 7

-- jumps at a width: JMP32 and JMP
abbrev pub jump_class : Width → ℕ
jump_class W32 = 6
jump_class W64 = 5

-- sources: K is an immediate, X a register
abbrev pub source_k : ℕ
source_k = 0

abbrev pub source_x : ℕ
source_x = 1

abbrev pub source_bit : Operand → ℕ
source_bit (Register r) = source_x
source_bit (Immediate imm) = source_k

abbrev pub src_of : Operand → ℕ
src_of (Register r) = r
src_of (Immediate imm) = 0

abbrev pub imm_of : Operand → ℤ
imm_of (Register r) = pos 0
imm_of (Immediate imm) = imm

-- codes of arithmetic; the signed quotient and remainder are DIV and MOD with offset 1
abbrev pub code_of : AluOp → ℕ
code_of Add = 0
code_of Sub = 1
code_of Mul = 2
code_of Div = 3
code_of SDiv = 3
code_of Or = 4
code_of And = 5
code_of Lsh = 6
code_of Rsh = 7
code_of Mod = 9
code_of SMod = 9
code_of Xor = 10
code_of Arsh = 12

-- all of them
abbrev pub alu_ops : List AluOp
alu_ops = Add ∷ Sub ∷ Mul ∷ Div ∷ SDiv ∷ Or ∷ And ∷ Lsh ∷ Rsh ∷ Mod ∷ SMod ∷ Xor ∷ Arsh ∷ []

abbrev pub offset_of : AluOp → ℤ
offset_of SDiv = pos 1
offset_of SMod = pos 1
offset_of op = pos 0

abbrev pub neg_code : ℕ
neg_code = 8

abbrev pub mov_code : ℕ
mov_code = 11

abbrev pub end_code : ℕ
end_code = 13

-- END has its direction in the source field, and swaps in the class of ALU64
abbrev pub order_source : ByteOrder → ℕ
order_source Little = 0
order_source Big = 1
order_source Swap = 0

abbrev pub order_width : ByteOrder → Width
order_width Little = W32
order_width Big = W32
order_width Swap = W64

-- codes of jumps
abbrev pub test_code : JumpOp → ℕ
test_code Eq = 1
test_code Gt = 2
test_code Ge = 3
test_code Set = 4
test_code Ne = 5
test_code SGt = 6
test_code SGe = 7
test_code Lt = 10
test_code Le = 11
test_code SLt = 12
test_code SLe = 13

abbrev pub ja_code : ℕ
ja_code = 0

abbrev pub exit_code : ℕ
exit_code = 9

-- sizes and modes
abbrev pub size_code : AccessSize → ℕ
size_code Word = 0
size_code HalfWord = 1
size_code Byte = 2
size_code DoubleWord = 3

abbrev pub mode_imm : ℕ
mode_imm = 0

abbrev pub mode_mem : ℕ
mode_mem = 3

abbrev pub mode_memsx : ℕ
mode_memsx = 4

abbrev pub mode_of : LoadKind → ℕ
mode_of LoadByte = mode_mem
mode_of LoadHalfWord = mode_mem
mode_of LoadWord = mode_mem
mode_of LoadDoubleWord = mode_mem
mode_of SignedByte = mode_memsx
mode_of SignedHalfWord = mode_memsx
mode_of SignedWord = mode_memsx

-- ST stores an immediate, STX a register
abbrev pub store_class : Operand → ℕ
store_class (Register r) = class_stx
store_class (Immediate imm) = class_st

-- the fields of an instruction's first unit; a field that it doesn't use is zero
abbrev pub fields_of : Insn → Fields
fields_of (Alu op width dst src) =
    record {
      opcode = opcode (code_of op) (source_bit src) (alu_class width);
      dst = dst;
      src = src_of src;
      offset = offset_of op;
      imm = imm_of src;
    }
fields_of (Negate width dst) =
    record {
      opcode = opcode neg_code source_k (alu_class width);
      dst = dst;
      src = 0;
      offset = pos 0;
      imm = pos 0;
    }
fields_of (Mov width dst src) =
    record {
      opcode = opcode mov_code (source_bit src) (alu_class width);
      dst = dst;
      src = src_of src;
      offset = pos 0;
      imm = imm_of src;
    }
fields_of (SignExtend extension dst src) =
    record {
      opcode = opcode mov_code source_x (alu_class (extension_width extension));
      dst = dst;
      src = src;
      offset = pos (extension_bits extension);
      imm = pos 0;
    }
fields_of (Reorder order size dst) =
    record {
      opcode = opcode end_code (order_source order) (alu_class (order_width order));
      dst = dst;
      src = 0;
      offset = pos 0;
      imm = pos (swap_bits size);
    }
fields_of (Wide dst value) =
    record {
      opcode = access_opcode mode_imm (size_code DoubleWord) class_ld;
      dst = dst;
      src = 0;
      offset = pos 0;
      imm = cast_signed w32 (value % 2 ^ 32);
    }
fields_of (Load kind dst src offset) =
    record {
      opcode = access_opcode (mode_of kind) (size_code (loaded_size kind)) class_ldx;
      dst = dst;
      src = src;
      offset = offset;
      imm = pos 0;
    }
fields_of (Store size dst src offset) =
    record {
      opcode = access_opcode mode_mem (size_code size) (store_class src);
      dst = dst;
      src = src_of src;
      offset = offset;
      imm = imm_of src;
    }
fields_of (Jump distance) = record { opcode = opcode ja_code source_k (jump_class W64); dst = 0; src = 0; offset = distance; imm = pos 0 }
fields_of (JumpLong distance) =
    record {
      opcode = opcode ja_code source_k (jump_class W32);
      dst = 0;
      src = 0;
      offset = pos 0;
      imm = distance;
    }
fields_of (Branch test width dst src distance) =
    record {
      opcode = opcode (test_code test) (source_bit src) (jump_class width);
      dst = dst;
      src = src_of src;
      offset = distance;
      imm = imm_of src;
    }
fields_of Exit = record { opcode = opcode exit_code source_k (jump_class W64); dst = 0; src = 0; offset = pos 0; imm = pos 0 }

-- the second unit of a wide instruction has the upper half of its value, and no other field
abbrev pub second_unit : ℕ → Fields
second_unit value = record { opcode = 0; dst = 0; src = 0; offset = pos 0; imm = cast_signed w32 (value / 2 ^ 32) }

abbrev pub second_bytes : Insn → List ℕ
second_bytes (Wide dst value) = unit_bytes (second_unit value)
second_bytes i = []

abbrev pub IsRegister : ℕ → Type 0
IsRegister r = r ≤ 10

abbrev pub IsOffset : ℤ → Type 0
IsOffset z = FitsSigned w16 z

abbrev pub IsImmediate : ℤ → Type 0
IsImmediate z = FitsSigned w32 z

abbrev pub IsOperand : Operand → Type 0
IsOperand (Register r) = IsRegister r
IsOperand (Immediate imm) = IsImmediate imm

-- the instruction's numbers fit their fields, as they do in every value of the type
abbrev pub IsInstruction : Insn → Type 0
IsInstruction (Alu op width dst src) = IsRegister dst × IsOperand src
IsInstruction (Negate width dst) = IsRegister dst
IsInstruction (Mov width dst src) = IsRegister dst × IsOperand src
IsInstruction (SignExtend extension dst src) = IsRegister dst × IsRegister src
IsInstruction (Reorder order size dst) = IsRegister dst
IsInstruction (Wide dst value) = IsRegister dst × IsWord value
IsInstruction (Load kind dst src offset) = IsRegister dst × IsRegister src × IsOffset offset
IsInstruction (Store size dst src offset) = IsRegister dst × IsOperand src × IsOffset offset
IsInstruction (Jump distance) = IsOffset distance
IsInstruction (JumpLong distance) = IsImmediate distance
IsInstruction (Branch test width dst src distance) = IsRegister dst × IsOperand src × IsOffset distance
IsInstruction Exit = Unit {0}

abbrev pub AreInstructions : List Insn → Type 0
AreInstructions instructions = AllByRecursion IsInstruction instructions

-- the bytes of an instruction
abbrev pub spelling : Insn → List ℕ
spelling i = unit_bytes (fields_of i) ++ second_bytes i

-- the bytes of instructions, in order
abbrev pub spelling_of_all : List Insn → List ℕ
spelling_of_all instructions = flat_map spelling instructions

-- the bytes spell the program
pub record Spells (text : List ℕ) (instructions : List Insn) : Type 0 where
  pub program : IsProgram instructions
  pub fits : AreInstructions instructions
  pub bytes : text ≡ spelling_of_all instructions
