-- The unit that a fault names.
use Rattle.std.proofs.Common.{◌≡◌, ℕ, refl}
use Rattle.bpf_decode.specs.declared.fault.UnitFault.{UnitFault}
use Rattle.bpf_decode.specs.declared.fault.UnitFault.TheVariants.{UnknownOpcode, BadRegister, UnusedNotZero, BadWidth, CutWide}
use Rattle.bpf_decode.specs.Faults.{decode_fault_unit, decode_fault_at}

-- a fault at a unit names it
pub unit_of-at_unit : (unit : ℕ) (fault : UnitFault) → decode_fault_unit (decode_fault_at unit fault) ≡ unit
unit_of-at_unit unit UnknownOpcode = refl
unit_of-at_unit unit BadRegister = refl
unit_of-at_unit unit UnusedNotZero = refl
unit_of-at_unit unit BadWidth = refl
unit_of-at_unit unit CutWide = refl
