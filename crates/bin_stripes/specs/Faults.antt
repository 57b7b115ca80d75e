-- The numbers with which refusals are printed and sent, and their texts. Our profile.
use Rattle.std.specs.Prelude.{ℕ, List, codes}
use Rattle.bin_stripes.specs.declared.fault.OpenFault.{OpenFault}
use Rattle.bin_stripes.specs.declared.fault.OpenFault.TheVariants.{BadStripes, BadPasses, NoMemory}
use Rattle.bin_stripes.specs.declared.fault.CallFault.{CallFault}
use Rattle.bin_stripes.specs.declared.fault.CallFault.TheVariants.{Busy, NoMemory as NoRoom}

abbrev pub map_fault_number : OpenFault → ℕ
map_fault_number BadStripes = 50
map_fault_number BadPasses = 51
map_fault_number NoMemory = 9

-- the fault
abbrev pub map_fault_message : OpenFault → List ℕ
map_fault_message BadStripes = codes "not a number of stripes"
map_fault_message BadPasses = codes "not a number of passes"
map_fault_message NoMemory = codes "no memory"

abbrev pub call_fault_number : CallFault → ℕ
call_fault_number Busy = 52
call_fault_number NoRoom = 9

abbrev pub call_fault_message : CallFault → List ℕ
call_fault_message Busy = codes "the stripe is held"
call_fault_message NoRoom = codes "no memory"
