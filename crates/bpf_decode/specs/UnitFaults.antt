-- Which fault a unit has, by its fields, and which fault the second half of a wide instruction has. Our profile of RFC
-- 9669.
use Rattle.std.specs.Prelude.{◌≡◌, ℕ, ◌^◌, ◌<◌, Bool, false, not, ◌&&◌, ◌||◌, ◌⊎◌, List, [], ◌++◌, Option, Some, None, nat_eq, nat_lt, if◌then◌else◌, ℤ, pos}
use Rattle.std.specs.Ordering.{int_eq}
use Rattle.bpf_model.specs.declared.operations.Width.{Width}
use Rattle.bpf_model.specs.declared.operations.Width.TheVariants.{W32, W64}
use Rattle.bpf_model.specs.Spelling.{Fields, unit_bytes, IsOffset, IsImmediate, alu_class, source_x, mov_code, end_code}
use Rattle.bpf_decode.specs.declared.fault.UnitFault.{UnitFault}
use Rattle.bpf_decode.specs.declared.fault.UnitFault.TheVariants.{UnknownOpcode, BadRegister, UnusedNotZero, BadWidth, CutWide}
use Rattle.bpf_decode.specs.declared.unit.UsedFields.{UsedFields}
use Rattle.bpf_decode.specs.Opcodes.{class_in, source_in, code_in, is_division, wide_opcode, used_fields}

-- the fields fit a unit, as those of any eight bytes do
pub record FitUnit (f : Fields) : Type 0 where
  pub opcode : f.opcode < 2 ^ 8
  pub dst : f.dst < 2 ^ 4
  pub src : f.src < 2 ^ 4
  pub offset : IsOffset f.offset
  pub imm : IsImmediate f.imm

-- a register field that is used and above 10
abbrev pub has_bad_register : UsedFields → Fields → Bool
has_bad_register used f = (used.dst && nat_lt 10 f.dst) || (used.src && nat_lt 10 f.src)

-- a field that is not used and not zero
abbrev pub has_unused_not_zero : UsedFields → Fields → Bool
has_unused_not_zero used f =
    (not used.dst && not (nat_eq f.dst 0)) || ((not used.src && not (nat_eq f.src 0))
    || ((not used.offset && not (int_eq f.offset (pos 0))) || (not used.imm && not (int_eq f.imm (pos 0)))))

-- the offset of a quotient or remainder: unsigned or signed
abbrev pub is_sign : ℤ → Bool
is_sign offset = int_eq offset (pos 0) || int_eq offset (pos 1)

-- the offset of a move at a width: the whole, or how many bits are sign-extended
abbrev pub is_move : Width → ℤ → Bool
is_move W32 offset = int_eq offset (pos 0) || (int_eq offset (pos 8) || int_eq offset (pos 16))
is_move W64 offset = int_eq offset (pos 0) || (int_eq offset (pos 8) || (int_eq offset (pos 16) || int_eq offset (pos 32)))

-- the imm of a change of byte order: how many bits
abbrev pub is_swap : ℤ → Bool
is_swap imm = int_eq imm (pos 16) || (int_eq imm (pos 32) || int_eq imm (pos 64))

-- an offset or imm of arithmetic that should choose between variants, and doesn't
abbrev pub has_bad_alu_width : Width → ℕ → ℕ → Fields → Bool
has_bad_alu_width width source code f =
    (is_division code && not (is_sign f.offset))
    || ((nat_eq code mov_code && (nat_eq source source_x && not (is_move width f.offset)))
    || (nat_eq code end_code && not (is_swap f.imm)))

abbrev pub has_bad_width : Fields → Bool
has_bad_width f =
    if nat_eq (class_in f.opcode) (alu_class W32) then has_bad_alu_width W32 (source_in f.opcode) (code_in f.opcode) f
    else (if nat_eq (class_in f.opcode) (alu_class W64) then has_bad_alu_width W64 (source_in f.opcode) (code_in f.opcode) f
    else false)

-- the least-numbered fault if these fields are used; if none are listed there is no such opcode
abbrev pub fault_under : Option UsedFields → Fields → Option UnitFault
fault_under None f = Some UnknownOpcode
fault_under (Some used) f =
    if has_bad_register used f then Some BadRegister
    else (if has_unused_not_zero used f then Some UnusedNotZero
    else (if has_bad_width f then Some BadWidth else None))

-- the least-numbered fault of a unit's fields
abbrev pub unit_fault : Fields → Option UnitFault
unit_fault f = fault_under (used_fields f.opcode) f

-- the first half of a wide instruction, without fault
pub record IsFirstHalf (f : Fields) : Type 0 where
  pub opcode : f.opcode ≡ wide_opcode
  pub faultless : unit_fault f ≡ None

-- the second half of a wide instruction has no field but imm
abbrev pub has_imm_alone : Fields → Bool
has_imm_alone f = nat_eq f.opcode 0 && (nat_eq f.dst 0 && (nat_eq f.src 0 && int_eq f.offset (pos 0)))

-- the bytes begin with a unit, and more follow
pub record BeginsWithMore (bytes : List ℕ) : Type 0 where
  pub fields : Fields
  pub rest : List ℕ
  pub fit : FitUnit fields
  pub spelled : bytes ≡ unit_bytes fields ++ rest
  pub more : has_imm_alone fields ≡ false

-- the fault of bytes after a first half: there are none, or their first unit isn't a second half
abbrev pub HasSecondFault : List ℕ → UnitFault → Type 0
HasSecondFault bytes fault = ((fault ≡ CutWide) × (bytes ≡ [])) ⊎ ((fault ≡ UnusedNotZero) × BeginsWithMore bytes)

-- a unit before these bytes has this fault: in its own fields, or else in its second half
abbrev pub UnitHas : Fields → List ℕ → UnitFault → Type 0
UnitHas f bytes fault = (unit_fault f ≡ Some fault) ⊎ (IsFirstHalf f × HasSecondFault bytes fault)
