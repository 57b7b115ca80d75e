use Rattle.std.proofs.Common.{arith}
use Rattle.stack_slots.proofs.GroupLemmas.{all_together}
use Rattle.stack_slots.proofs.groups.ungrouped.Goals as goal

pub returns : goal.returns
returns c = record { value = all_together c.args.groups.now c.loop-index.values c.loop-index.index (omega arith) c.requires.all c.loop-index.invariant.count c.loop-index.invariant.value }
