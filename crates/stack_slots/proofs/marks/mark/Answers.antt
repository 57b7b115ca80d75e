use Rattle.std.proofs.Common.{arith}
use Rattle.stack_slots.specs.Marks.{is_marked}
use Rattle.stack_slots.proofs.MarkLemmas.{mark_step}
use Rattle.stack_slots.proofs.marks.mark.Goals as goal

pub loop-index-preserved : goal.loop-index-preserved
loop-index-preserved c =
    mark_step c.loop-index.words c.args.first c.args.end c.loop-index.index c.between.result (is_marked c.args.words.now) (omega arith) c.between.ensures.bits c.loop-index.invariant
