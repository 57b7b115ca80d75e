-- Internal: facts about a program while its flow is tested.
use Rattle.std.specs.Prelude.{◌≡◌, ◌≢◌, ℕ, ◌≤◌, ℤ, List, Bool, false, is_some, slice_index_or}
use Rattle.bpf_model.specs.declared.limits.TheConstants.{PROGRAM_UNITS}
use Rattle.bpf_model.specs.declared.instruction.Insn.{Insn}
use Rattle.bpf_model.specs.Program.{unit_count, instruction_at}
use Rattle.flow_shape.specs.declared.fault.FlowFault.{FlowFault}
use Rattle.flow_shape.specs.Jumps.{JumpsBy}
use Rattle.flow_shape.specs.FlowShape.{HasFault, flow_fault_unit, flow_fault_number, Lands}

-- a flag is set exactly if an instruction starts there, and the units are counted
pub record IsLaidOut (program : List Insn) (flags : List Bool) (total : ℕ) : Type 0 where
  pub starts : (unit : ℕ) → slice_index_or flags unit false ≡ is_some (instruction_at program unit)
  pub counted : total ≡ unit_count program
  pub bounded : unit_count program ≤ PROGRAM_UNITS

-- the instruction at this unit has no fault
abbrev pub HasNoFaultAt : List Insn → ℕ → Type 0
HasNoFaultAt program unit = (fault : FlowFault) → HasFault program fault → flow_fault_unit fault ≢ unit

-- the program has this fault at this unit, and at this unit none of a lesser number
pub record IsFirstFaultAt (program : List Insn) (unit : ℕ) (fault : FlowFault) : Type 0 where
  pub has : HasFault program fault
  pub at : flow_fault_unit fault ≡ unit
  pub least : (other : FlowFault) → HasFault program other → flow_fault_unit other ≡ unit → flow_fault_number fault ≤ flow_fault_number other

-- the instruction at this unit lands, if it is a jump
abbrev pub DoesLand : List Insn → ℕ → Type 0
DoesLand program unit = (distance : ℤ) → JumpsBy program unit distance → Lands program unit distance
