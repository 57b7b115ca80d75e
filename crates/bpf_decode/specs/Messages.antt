-- The text of a fault.
use Rattle.std.specs.Prelude.{ℕ, List, ◌++◌, codes, decimal}
use Rattle.bpf_model.specs.declared.limits.TheConstants.{PROGRAM_UNITS}
use Rattle.bpf_decode.specs.declared.fault.DecodeFault.{DecodeFault}
use Rattle.bpf_decode.specs.declared.fault.DecodeFault.TheVariants.{NoMemory, Empty, NotWholeUnits, TooManyUnits, UnknownOpcode, BadRegister, UnusedNotZero, BadWidth, CutWide}

-- the fault and its place
abbrev pub decode_fault_message : DecodeFault → List ℕ
decode_fault_message NoMemory = codes "no memory"
decode_fault_message Empty = codes "no byte"
decode_fault_message NotWholeUnits = codes "the number of bytes is no multiple of 8"
decode_fault_message TooManyUnits = codes "more than " ++ decimal PROGRAM_UNITS ++ codes " units"
decode_fault_message (UnknownOpcode unit) = codes "unknown opcode at unit " ++ decimal unit
decode_fault_message (BadRegister unit) = codes "register above 10 at unit " ++ decimal unit
decode_fault_message (UnusedNotZero unit) = codes "unused field is not zero at unit " ++ decimal unit
decode_fault_message (BadWidth unit) = codes "no such width at unit " ++ decimal unit
decode_fault_message (CutWide unit) = codes "wide instruction without second half at unit " ++ decimal unit
