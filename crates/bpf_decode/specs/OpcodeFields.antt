-- The byte of an opcode, and the fields that its instructions use. Internal: no public contract cites it.
use Rattle.std.specs.Prelude.{◌≡◌, ℕ, ◌≤◌, Bool, true, false, nat_eq, ℤ, pos}
use Rattle.bpf_model.specs.declared.operations.Width.TheVariants.{W32, W64}
use Rattle.bpf_model.specs.Spelling.{Fields, opcode, access_opcode, class_ldx, class_st, class_stx, alu_class, jump_class, source_k, source_x, code_of, neg_code, mov_code, end_code, order_source, order_width, test_code, ja_code, exit_code, size_code, mode_mem, mode_of}
use Rattle.bpf_model.specs.Accesses.{loaded_size}
use Rattle.bpf_decode.specs.declared.opcode.Source.{Source}
use Rattle.bpf_decode.specs.declared.opcode.Source.TheVariants.{Immediate, Register}
use Rattle.bpf_decode.specs.declared.opcode.Opcode.{Opcode}
use Rattle.bpf_decode.specs.declared.opcode.Opcode.TheVariants.{Alu, Negate, Mov, Reorder, Wide, Load, Store, Jump, JumpLong, Branch, Exit}
use Rattle.bpf_decode.specs.declared.unit.UsedFields.{UsedFields}
use Rattle.bpf_decode.specs.Opcodes.{operands, dst_alone, dst_and_imm, offset_alone, imm_alone, no_field, is_division, wide_opcode}

abbrev pub source_number : Source → ℕ
source_number Immediate = source_k
source_number Register = source_x

-- ST stores an immediate, STX a register
abbrev pub stored_class : Source → ℕ
stored_class Immediate = class_st
stored_class Register = class_stx

-- the byte that stands for an opcode
abbrev pub opcode_byte : Opcode → ℕ
opcode_byte (Alu op source width) = opcode (code_of op) (source_number source) (alu_class width)
opcode_byte (Negate width) = opcode neg_code source_k (alu_class width)
opcode_byte (Mov source width) = opcode mov_code (source_number source) (alu_class width)
opcode_byte (Reorder order) = opcode end_code (order_source order) (alu_class (order_width order))
opcode_byte Wide = wide_opcode
opcode_byte (Load kind) = access_opcode (mode_of kind) (size_code (loaded_size kind)) class_ldx
opcode_byte (Store source size) = access_opcode mode_mem (size_code size) (stored_class source)
opcode_byte Jump = opcode ja_code source_k (jump_class W64)
opcode_byte JumpLong = opcode ja_code source_k (jump_class W32)
opcode_byte (Branch test source width) = opcode (test_code test) (source_number source) (jump_class width)
opcode_byte Exit = opcode exit_code source_k (jump_class W64)

-- the fields that its instructions use
abbrev pub used_by : Opcode → UsedFields
used_by (Alu op source width) = operands (source_number source) (is_division (code_of op))
used_by (Negate width) = dst_alone
used_by (Mov source width) = operands (source_number source) (nat_eq (source_number source) source_x)
used_by (Reorder order) = dst_and_imm
used_by Wide = dst_and_imm
used_by (Load kind) = operands source_x true
used_by (Store source size) = operands (source_number source) true
used_by Jump = offset_alone
used_by JumpLong = imm_alone
used_by (Branch test source width) = operands (source_number source) true
used_by Exit = no_field

-- a register's number if the field is used, else zero
abbrev pub IsRegisterIfUsed : Bool → ℕ → Type 0
IsRegisterIfUsed true n = n ≤ 10
IsRegisterIfUsed false n = n ≡ 0

-- any number if the field is used, else zero
abbrev pub IsZeroUnlessUsed : Bool → ℤ → Type 0
IsZeroUnlessUsed true z = Unit {0}
IsZeroUnlessUsed false z = z ≡ pos 0

-- the fields are operands of instructions that use these; widths are checked elsewhere
pub record AreOperands (used : UsedFields) (f : Fields) : Type 0 where
  pub dst : IsRegisterIfUsed used.dst f.dst
  pub src : IsRegisterIfUsed used.src f.src
  pub offset : IsZeroUnlessUsed used.offset f.offset
  pub imm : IsZeroUnlessUsed used.imm f.imm
