use Rattle.flow_shape.proofs.FaultLemmas.{Passed}
use Rattle.flow_shape.proofs.shaping.find_fault.Given as goal

abbrev pub invariant-loop-insn : goal.invariant-loop-insn
invariant-loop-insn l = Passed l.program l.insn-index l.unit
