-- the last of those so far
use Rattle.std.proofs.Common.{◌≡◌, ◌<◌}
use Rattle.std.specs.Prelude.{IfSome}
use Rattle.explanations.specs.Origins.{unwritten_read}
use Rattle.explanations.proofs.origin.unwritten_read.Given as goal

abbrev pub invariant-loop-register : goal.invariant-loop-register
invariant-loop-register l = record {
  last : l.last ≡ unwritten_read l.insn l.state l.register;
  inside : IfSome l.last (λ register. register < 11);
}
