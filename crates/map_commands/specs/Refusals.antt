-- The number and the place of each refusal.
use Rattle.std.specs.Prelude.{ℕ}
use Rattle.bpf_assembler.specs.Faults as assemble
use Rattle.admission.specs.Admissions as admission
use Rattle.map_commands.specs.declared.hex.HexFault.{HexFault}
use Rattle.map_commands.specs.declared.hex.HexFault.TheVariants as hex
use Rattle.map_commands.specs.declared.refusal.Refusal.{Refusal}
use Rattle.map_commands.specs.declared.refusal.Refusal.TheVariants.{TooLong, NoMemory, NotHex, Assemble, Program}

abbrev pub refusal_number : Refusal → ℕ
refusal_number TooLong = 1
refusal_number NoMemory = 9
refusal_number (NotHex place) = 70
refusal_number (Assemble fault) = assemble.asm_fault_number fault
refusal_number (Program fault) = admission.admission_fault_number fault

abbrev pub place_of : Refusal → ℕ
place_of TooLong = 0
place_of NoMemory = 0
place_of (NotHex place) = place
place_of (Assemble fault) = assemble.line_number fault
place_of (Program fault) = admission.admission_fault_unit fault

abbrev pub of_hex : HexFault → Refusal
of_hex (hex.NotHex place) = NotHex place
of_hex hex.NoMemory = NoMemory
