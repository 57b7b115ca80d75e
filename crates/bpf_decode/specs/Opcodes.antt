-- Which fields the instructions of an opcode use. RFC 9669, sections 3 to 5. Our profile has no calls, atomic
-- operations or packet access, and no wide form but the plain value.
use Rattle.std.specs.Prelude.{ℕ, ◌/◌, ◌%◌, Bool, true, false, not, ◌&&◌, ◌||◌, Option, Some, None, nat_eq, nat_le, if◌then◌else◌}
use Rattle.bpf_model.specs.declared.operations.AluOp.TheVariants.{Div, Mod}
use Rattle.bpf_model.specs.declared.operations.Width.{Width}
use Rattle.bpf_model.specs.declared.operations.Width.TheVariants.{W32, W64}
use Rattle.bpf_model.specs.declared.accesses.AccessSize.TheVariants.{DoubleWord}
use Rattle.bpf_model.specs.Spelling.{access_opcode, class_ld, class_ldx, class_st, class_stx, alu_class, jump_class, source_k, source_x, code_of, neg_code, mov_code, end_code, ja_code, exit_code, size_code, mode_imm, mode_mem, mode_memsx}
use Rattle.bpf_decode.specs.declared.unit.UsedFields.{UsedFields}

-- the parts of an opcode
abbrev pub class_in : ℕ → ℕ
class_in opcode = opcode % 8

-- of arithmetic and jumps
abbrev pub source_in : ℕ → ℕ
source_in opcode = opcode / 8 % 2

abbrev pub code_in : ℕ → ℕ
code_in opcode = opcode / 16

-- of loads and stores
abbrev pub size_in : ℕ → ℕ
size_in opcode = opcode / 8 % 4

abbrev pub mode_in : ℕ → ℕ
mode_in opcode = opcode / 32

-- dst and a second operand, which is in src for source X and in imm for source K; and the offset if used
abbrev pub operands : ℕ → Bool → UsedFields
operands source offset = record { dst = true; src = nat_eq source source_x; offset = offset; imm = nat_eq source source_k }

abbrev pub dst_alone : UsedFields
dst_alone = record { dst = true; src = false; offset = false; imm = false }

abbrev pub dst_and_imm : UsedFields
dst_and_imm = record { dst = true; src = false; offset = false; imm = true }

abbrev pub offset_alone : UsedFields
offset_alone = record { dst = false; src = false; offset = true; imm = false }

abbrev pub imm_alone : UsedFields
imm_alone = record { dst = false; src = false; offset = false; imm = true }

abbrev pub no_field : UsedFields
no_field = record { dst = false; src = false; offset = false; imm = false }

-- the codes of arithmetic on two operands
abbrev pub is_alu_code : ℕ → Bool
is_alu_code code = nat_le code 7 || (nat_eq code 9 || (nat_eq code 10 || nat_eq code 12))

-- those whose offset says whether they are signed
abbrev pub is_division : ℕ → Bool
is_division code = nat_eq code (code_of Div) || nat_eq code (code_of Mod)

-- END has two directions in the class of ALU, and one form in that of ALU64
abbrev pub has_order : Width → ℕ → Bool
has_order W32 source = true
has_order W64 source = nat_eq source source_k

-- arithmetic at a width, by source and code; the offset of MOV X says which sign is extended
abbrev pub used_by_alu : Width → ℕ → ℕ → Option UsedFields
used_by_alu width source code =
    if is_alu_code code then Some (operands source (is_division code))
    else (if nat_eq code mov_code then Some (operands source (nat_eq source source_x))
    else (if nat_eq code neg_code && nat_eq source source_k then Some dst_alone
    else (if nat_eq code end_code && has_order width source then Some dst_and_imm else None)))

-- the codes of conditions
abbrev pub is_test_code : ℕ → Bool
is_test_code code = (nat_le 1 code && nat_le code 7) || (nat_le 10 code && nat_le code 13)

-- a jump without condition, whose distance is in imm in the class of JMP32, and the end, by the code
abbrev pub used_by_plain_jump : Width → ℕ → Option UsedFields
used_by_plain_jump W64 code =
    if nat_eq code ja_code then Some offset_alone
    else (if nat_eq code exit_code then Some no_field else None)
used_by_plain_jump W32 code = if nat_eq code ja_code then Some imm_alone else None

-- jumps at a width, by source and code
abbrev pub used_by_jump : Width → ℕ → ℕ → Option UsedFields
used_by_jump width source code =
    if is_test_code code then Some (operands source true)
    else (if nat_eq source source_k then used_by_plain_jump width code else None)

-- the opcode of wide instructions
abbrev pub wide_opcode : ℕ
wide_opcode = access_opcode mode_imm (size_code DoubleWord) class_ld

-- loads, by mode and size; no load reads eight bytes with a sign
abbrev pub used_by_load : ℕ → ℕ → Option UsedFields
used_by_load mode size =
    if nat_eq mode mode_mem || (nat_eq mode mode_memsx && not (nat_eq size (size_code DoubleWord))) then Some (operands source_x true) else None

-- stores of a source, by mode
abbrev pub used_by_store : ℕ → ℕ → Option UsedFields
used_by_store source mode = if nat_eq mode mode_mem then Some (operands source true) else None

-- which fields the instructions of an opcode use; none if no instruction has the opcode
abbrev pub used_fields : ℕ → Option UsedFields
used_fields opcode =
    if nat_eq (class_in opcode) class_ld then (if nat_eq opcode wide_opcode then Some dst_and_imm else None)
    else (if nat_eq (class_in opcode) class_ldx then used_by_load (mode_in opcode) (size_in opcode)
    else (if nat_eq (class_in opcode) class_st then used_by_store source_k (mode_in opcode)
    else (if nat_eq (class_in opcode) class_stx then used_by_store source_x (mode_in opcode)
    else (if nat_eq (class_in opcode) (jump_class W64) then used_by_jump W64 (source_in opcode) (code_in opcode)
    else (if nat_eq (class_in opcode) (jump_class W32) then used_by_jump W32 (source_in opcode) (code_in opcode)
    else (if nat_eq (class_in opcode) (alu_class W32) then used_by_alu W32 (source_in opcode) (code_in opcode)
    else used_by_alu W64 (source_in opcode) (code_in opcode)))))))
