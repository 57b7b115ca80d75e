-- The text of a flow fault.
use Rattle.std.specs.Prelude.{ℕ, List, ◌++◌, codes}
use Rattle.std.specs.Fmt.{decimal}
use Rattle.flow_shape.specs.declared.fault.FlowFault.{FlowFault}
use Rattle.flow_shape.specs.declared.fault.FlowFault.TheVariants.{BackwardJump, JumpOut, JumpIntoWide, FallsOffEnd}
use Rattle.flow_shape.specs.FlowShape.{flow_fault_unit}

-- the fault
abbrev pub flow_fault_reason : FlowFault → List ℕ
flow_fault_reason (BackwardJump unit) = codes "a jump goes backward"
flow_fault_reason (JumpOut unit) = codes "a jump leaves the program"
flow_fault_reason (JumpIntoWide unit) = codes "a jump goes into a wide instruction"
flow_fault_reason (FallsOffEnd unit) = codes "the last instruction is neither an exit nor a jump"

-- and its place
abbrev pub flow_fault_message : FlowFault → List ℕ
flow_fault_message fault = flow_fault_reason fault ++ codes " at unit " ++ decimal (flow_fault_unit fault)
