use Rattle.std.proofs.Common.{ℕ, ◌+◌, ap, length, length-append, ◌∙◌}
use Rattle.atomic_methods.proofs.RunLemmas.{made_more}
use Rattle.atomic_methods.proofs.striped.Striped.run.Goals as goal

pub loop-call-preserved : goal.loop-call-preserved
loop-call-preserved c =
    let inv = c.loop-call.invariant in
    let made = made_more _ _ _ _ _ _ _ _ c.loop-call-test.true c.call-item.is inv.made c.in-Ok-apply.ensures.ok in
    record {
      made = rw c.push_reserved.ensures.items made;
      count = ap length c.push_reserved.ensures.items ∙ length-append _ _ ∙ ap (λ (n : ℕ). n + 1) inv.count;
      room = rw c.push_reserved.ensures.capacity inv.room;
    }
