use Rattle.std.proofs.Common.{◌≡◌, ◌+◌, ◌-◌, ◌*◌, take, drop, length-append, arith}
use Rattle.stack_slots.proofs.GroupLemmas.{pushed}
use Rattle.stack_slots.proofs.groups.grouped.Goals as goal

pub loop-index-preserved : goal.loop-index-preserved
loop-index-preserved c =
    let group = c.in_ok-group.group in
    let i = c.loop-index.index in
    let width : 8 * i + 8 - 8 * i ≡ 8 = omega arith in
    let same : group.value ≡ take 8 (drop (8 * c.loop-index.index) c.args.values.now) = rw width at c.in_ok-group.ensures.value in
    rw c.in_ok-push.ensures.items (record {
      value = pushed c.loop-index.groups.items c.args.values.now c.loop-index.index group c.loop-index.invariant.value same;
      count = grind (arith, length-append);
    })
