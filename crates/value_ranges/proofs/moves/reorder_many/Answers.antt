use Rattle.std.proofs.Common.{arith}
use Rattle.bpf_model.proofs.ByteOrderLaws.{reordered_below}
use Rattle.value_ranges.proofs.moves.reorder_many.Goals as goal

pub returns-in_default : goal.returns-in_default
returns-in_default c = λ x p.
    let below = reordered_below c.args.order c.args.size x in
    let most = c.greatest_of-greatest.ensures in
    c.unsigned.ensures.holds _ (record { word = omega arith; umin = omega arith; umax = omega arith })
