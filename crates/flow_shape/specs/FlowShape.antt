-- Which flow faults a program has, and what holds if it has none. Our profile of RFC 9669.
use Rattle.std.specs.Prelude.{◌≡◌, ℕ, ◌+◌, ◌<◌, ◌≤◌, ◌⊎◌, true, List, Some, None, IsSome, ℤ, pos, ◌<ℤ◌, ◌≤ℤ◌}
use Rattle.bpf_model.specs.declared.instruction.Insn.{Insn}
use Rattle.bpf_model.specs.Program.{units_of, unit_count, instruction_at}
use Rattle.bpf_model.specs.Step.{unit_of}
use Rattle.flow_shape.specs.declared.fault.FlowFault.{FlowFault}
use Rattle.flow_shape.specs.declared.fault.FlowFault.TheVariants.{BackwardJump, JumpOut, JumpIntoWide, FallsOffEnd}
use Rattle.flow_shape.specs.Jumps.{falls_through, JumpsBy, target_of}

-- a jump backward, or to itself
abbrev pub JumpsBack : List Insn → ℕ → Type 0
JumpsBack program unit = (distance : ℤ) × (JumpsBy program unit distance × (distance <ℤ pos 0))

-- a jump at or past the number of units
abbrev pub JumpsOut : List Insn → ℕ → Type 0
JumpsOut program unit =
    (distance : ℤ) × (JumpsBy program unit distance × (pos (unit_count program) ≤ℤ target_of unit distance))

-- if no instruction starts at a unit of the program, it is the second half of a wide one
abbrev pub IsSecondHalf : List Insn → ℕ → Type 0
IsSecondHalf program unit = (unit < unit_count program) × (instruction_at program unit ≡ None)

-- a jump to a second half
pub record JumpsIntoWide (program : List Insn) (unit : ℕ) : Type 0 where
  pub distance : ℤ
  pub target : ℕ
  pub jumps : JumpsBy program unit distance
  pub aims : target_of unit distance ≡ pos target
  pub half : IsSecondHalf program target

-- the last instruction starts at this unit, and a run may go on after it, past the program's end
pub record Falls (program : List Insn) (unit : ℕ) : Type 0 where
  pub instruction : Insn
  pub at : instruction_at program unit ≡ Some instruction
  pub last : unit + units_of instruction ≡ unit_count program
  pub goes_on : falls_through instruction ≡ true

-- the program has this fault, in the instruction at its unit
abbrev pub HasFault : List Insn → FlowFault → Type 0
HasFault program (BackwardJump unit) = JumpsBack program unit
HasFault program (JumpOut unit) = JumpsOut program unit
HasFault program (JumpIntoWide unit) = JumpsIntoWide program unit
HasFault program (FallsOffEnd unit) = Falls program unit

-- the program has no flow fault
abbrev pub IsWellShaped : List Insn → Type 0
IsWellShaped program = (fault : FlowFault) → HasFault program fault → ⊥

-- the unit of the faulty instruction
abbrev pub flow_fault_unit : FlowFault → ℕ
flow_fault_unit (BackwardJump unit) = unit
flow_fault_unit (JumpOut unit) = unit
flow_fault_unit (JumpIntoWide unit) = unit
flow_fault_unit (FallsOffEnd unit) = unit

-- the number with which the fault is printed and sent
abbrev pub flow_fault_number : FlowFault → ℕ
flow_fault_number (BackwardJump unit) = 30
flow_fault_number (JumpOut unit) = 31
flow_fault_number (JumpIntoWide unit) = 32
flow_fault_number (FallsOffEnd unit) = 33

-- the program has this fault, none at a lower unit, and at this unit none of a lesser number
pub record IsFirstFlowFault (program : List Insn) (fault : FlowFault) : Type 0 where
  pub has : HasFault program fault
  pub first : (other : FlowFault) → HasFault program other
      → (flow_fault_unit fault < flow_fault_unit other) ⊎ ((flow_fault_unit fault ≡ flow_fault_unit other) × (flow_fault_number fault ≤ flow_fault_number other))

-- a jump at this unit goes forward, to a unit at which an instruction starts
pub record Lands (program : List Insn) (unit : ℕ) (distance : ℤ) : Type 0 where
  pub target : ℕ
  pub aims : unit_of (target_of unit distance) ≡ Some target
  pub forward : unit < target
  pub starts : IsSome (instruction_at program target)

-- each jump goes forward, to the start of an instruction inside, and no run leaves the program after an instruction
pub record IsForward (program : List Insn) : Type 0 where
  pub lands : (unit : ℕ) (distance : ℤ) → JumpsBy program unit distance → (pos 0 ≤ℤ distance) × Lands program unit distance
  pub goes_on : (unit : ℕ) (i : Insn) → instruction_at program unit ≡ Some i → falls_through i ≡ true → IsSome (instruction_at program (unit + units_of i))
