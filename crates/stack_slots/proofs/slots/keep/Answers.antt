use Rattle.std.proofs.Common.{arith}
use Rattle.stack_slots.proofs.MarkingLemmas.{kept_alone}
use Rattle.stack_slots.proofs.slots.keep.Goals as goal

pub returns-in-None : goal.returns-in-None
returns-in-None c = record { exact = rw c.in-None.is (kept_alone c.args.slot c.args.value (omega (arith, c.requires.inside))) }
