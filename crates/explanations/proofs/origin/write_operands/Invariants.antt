-- the registers so far are told
use Rattle.std.proofs.Common.{◌≡◌, ◌++◌, string_bytes}
use Rattle.explanations.specs.Origins.{operands_below}
use Rattle.explanations.proofs.origin.write_operands.Given as goal

abbrev pub invariant-loop-register : goal.invariant-loop-register
invariant-loop-register l = string_bytes l.text ≡ string_bytes l.initial.text ++ operands_below l.insn l.state l.register
