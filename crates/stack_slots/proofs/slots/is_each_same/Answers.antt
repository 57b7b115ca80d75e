use Rattle.std.proofs.Common.{None, arith}
use Rattle.std.proofs.lemmas.List.{ext_get_or}
use Rattle.stack_slots.proofs.slots.is_each_same.Goals as goal

pub returns : goal.returns
returns c = record { same = λ _. ext_get_or None c.args.slots.now c.args.other.now c.requires.same (λ i below. c.loop-index.invariant i (omega (arith, below))) }
