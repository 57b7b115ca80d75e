use Rattle.std.proofs.Common.{arith}
use Rattle.crews.proofs.serving.is_held.Goals as goal

pub returns-then-number : goal.returns-then-number
returns-then-number c =
    record {
      held = c.other-item.result;
      place = c.loop-other.other-index;
      inside = omega arith;
      there = c.other-item.is;
      number_is = omega (arith, c.if-number.true, c.number.ensures, c.number-in-loop-other.ensures);
      program_is = c.agrees.ensures.same_program;
    }
