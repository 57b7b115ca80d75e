use Rattle.std.proofs.Common.{◌≡◌, ◌≢◌, ◌<◌, ◌∙◌, length, get_or, arith, below_more}
use Rattle.std.proofs.lemmas.List.{get_or-set_same, get_or-set_other, get_or_default}
use Rattle.stack_slots.specs.declared.reg_value.RegValue.TheVariants.{Unwritten}
use Rattle.verifier.proofs.abstract_state.branches.join_registers.Goals as goal

pub loop-r-preserved : goal.loop-r-preserved
loop-r-preserved c =
    let xs = c.loop-r.registers in
    let ys = c.args.others.now in
    let r = c.loop-r.r in
    let x = c.index-registers-r.result in
    let y = c.index-others-r.result in
    let z = c.join.result in
    let kept = c.loop-r.invariant in
    let within : r < length xs = omega arith in
    let within_too : r < length ys = omega arith in
    let left : get_or xs r x ≡ get_or c.args.registers.now r Unwritten = get_or_default xs r x Unwritten within ∙ kept.after r (omega arith) in
    let right : y ≡ get_or ys r Unwritten = c.index-others-r.is ∙ get_or_default ys r y Unwritten within_too in
    record {
      before = below_more _ _ (λ k below. let apart : k ≢ r = omega arith in rw (get_or-set_other xs r k z Unwritten apart) (kept.before k below)) (rw (get_or-set_same xs r z Unwritten within) (rw (left, right) at c.join.ensures.exact));
      after = λ k past. let apart : k ≢ r = omega arith in get_or-set_other xs r k z Unwritten apart ∙ kept.after k (omega arith);
    }
