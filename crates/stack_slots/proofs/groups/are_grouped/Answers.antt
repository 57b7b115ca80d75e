use Rattle.std.proofs.Common.{◌≡◌, ◌∙◌, ◌+◌, ◌-◌, ◌*◌, take, drop, sym, arith, rules}
use Rattle.stack_slots.proofs.GroupLemmas.{further}
use Rattle.stack_slots.proofs.groups.are_grouped.Goals as goal

pub loop-index-preserved : goal.loop-index-preserved
loop-index-preserved c =
    let group = c.index-groups-index.result in
    let i = c.loop-index.index in
    let width : 8 * i + 8 - 8 * i ≡ 8 = omega arith in
    let same : group.value ≡ take 8 (drop (8 * c.loop-index.index) c.args.values.now) = sym c.deref-group.ensures ∙ (rw width at c.is_each_same.ensures.same (search rules)) in
    further c.args.groups.now c.args.values.now c.loop-index.index group (omega arith) (sym c.index-groups-index.is) c.loop-index.invariant same
