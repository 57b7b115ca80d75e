-- The numbers with which refusals are printed and sent, and their texts. Our profile.
use Rattle.std.specs.Prelude.{ℕ, List, codes}
use Rattle.atomic_methods.specs.declared.fault.OpenFault.{OpenFault}
use Rattle.atomic_methods.specs.declared.fault.OpenFault.TheVariants.{BadStripes, NoMemory}

abbrev pub open_fault_number : OpenFault → ℕ
open_fault_number BadStripes = 50
open_fault_number NoMemory = 9

-- the fault
abbrev pub open_fault_message : OpenFault → List ℕ
open_fault_message BadStripes = codes "not a number of stripes"
open_fault_message NoMemory = codes "no memory"
