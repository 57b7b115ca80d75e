use Rattle.std.proofs.Common.{◌≡◌, drop}
use Rattle.bpf_assembler.specs.Operands.{value_from}
use Rattle.bpf_assembler.proofs.number.value_within.Given as goal

-- the digits so far have this value
abbrev pub invariant-loop-digit : goal.invariant-loop-digit
invariant-loop-digit l = value_from l.value (drop l.digit-index l.digits) ≡ value_from 0 l.digits
