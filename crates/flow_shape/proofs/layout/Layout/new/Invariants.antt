use Rattle.flow_shape.proofs.LayoutLemmas.{Marked}
use Rattle.flow_shape.proofs.layout.Layout.new.Given as goal

abbrev pub invariant-loop-insn : goal.invariant-loop-insn
invariant-loop-insn l = Marked l.instructions l.insn-index l.starts l.total
