-- Which fault of the bytes comes first. Our profile of RFC 9669.
use Rattle.std.specs.Prelude.{◌≡◌, ℕ, ◌/◌, ◌%◌, not, ◌⊎◌, List, ◌++◌, length, Option, Some, None, nat_eq, nat_lt, if◌then◌else◌}
use Rattle.bpf_model.specs.declared.limits.TheConstants.{PROGRAM_UNITS}
use Rattle.bpf_model.specs.declared.instruction.Insn.{Insn}
use Rattle.bpf_model.specs.Program.{unit_count}
use Rattle.bpf_model.specs.Spelling.{Fields, unit_bytes, spelling_of_all, AreInstructions}
use Rattle.bpf_decode.specs.declared.fault.DecodeFault.{DecodeFault}
use Rattle.bpf_decode.specs.declared.fault.DecodeFault.TheVariants.{NoMemory, Empty, NotWholeUnits, TooManyUnits}
use Rattle.bpf_decode.specs.declared.fault.DecodeFault.TheVariants as at
use Rattle.bpf_decode.specs.declared.fault.UnitFault.{UnitFault}
use Rattle.bpf_decode.specs.declared.fault.UnitFault.TheVariants.{UnknownOpcode, BadRegister, UnusedNotZero, BadWidth, CutWide}
use Rattle.bpf_decode.specs.UnitFaults.{FitUnit, UnitHas}

-- the number with which a fault is printed and sent
abbrev pub decode_fault_number : DecodeFault → ℕ
decode_fault_number NoMemory = 9
decode_fault_number Empty = 10
decode_fault_number NotWholeUnits = 11
decode_fault_number TooManyUnits = 12
decode_fault_number (at.UnknownOpcode unit) = 13
decode_fault_number (at.BadRegister unit) = 14
decode_fault_number (at.UnusedNotZero unit) = 15
decode_fault_number (at.BadWidth unit) = 16
decode_fault_number (at.CutWide unit) = 17

-- the unit that it names; 0 if it belongs to no unit
abbrev pub decode_fault_unit : DecodeFault → ℕ
decode_fault_unit (at.UnknownOpcode unit) = unit
decode_fault_unit (at.BadRegister unit) = unit
decode_fault_unit (at.UnusedNotZero unit) = unit
decode_fault_unit (at.BadWidth unit) = unit
decode_fault_unit (at.CutWide unit) = unit
decode_fault_unit fault = 0

-- a fault at this unit
abbrev pub decode_fault_at : ℕ → UnitFault → DecodeFault
decode_fault_at unit UnknownOpcode = at.UnknownOpcode unit
decode_fault_at unit BadRegister = at.BadRegister unit
decode_fault_at unit UnusedNotZero = at.UnusedNotZero unit
decode_fault_at unit BadWidth = at.BadWidth unit
decode_fault_at unit CutWide = at.CutWide unit

-- the fault in the number of bytes
abbrev pub length_fault : List ℕ → Option DecodeFault
length_fault bytes =
    if nat_eq (length bytes) 0 then Some Empty
    else (if not (nat_eq (length bytes % 8) 0) then Some NotWholeUnits
    else (if nat_lt PROGRAM_UNITS (length bytes / 8) then Some TooManyUnits else None))

-- the bytes spell instructions, and the next unit has this fault
pub record HasUnitFault (bytes : List ℕ) (fault : DecodeFault) : Type 0 where
  pub front : List Insn
  pub fields : Fields
  pub rest : List ℕ
  pub of_unit : UnitFault
  pub instructions : AreInstructions front
  pub fit : FitUnit fields
  pub spelled : bytes ≡ spelling_of_all front ++ (unit_bytes fields ++ rest)
  pub faulty : UnitHas fields rest of_unit
  pub named : fault ≡ decode_fault_at (unit_count front) of_unit

-- the fault of the number of bytes; if it has none, the fault of the first unit that is no instruction's
abbrev pub IsFirstDecodeFault : List ℕ → DecodeFault → Type 0
IsFirstDecodeFault bytes fault = (length_fault bytes ≡ Some fault) ⊎ ((length_fault bytes ≡ None) × HasUnitFault bytes fault)
