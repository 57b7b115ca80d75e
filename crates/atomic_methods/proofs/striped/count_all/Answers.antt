use Rattle.std.proofs.Common.{◌≡◌, ℕ, ◌+◌, ◌<◌, arith, sym, ap, ◌∙◌, List, take, length, length-append, get_or}
use Rattle.std.specs.FinMap as map
use Rattle.bins.specs.Table.{Entry, Table}
use Rattle.atomic_methods.specs.Whole.{all_entries}
use Rattle.atomic_methods.proofs.WholeLemmas.{all_entries-more}
use Rattle.atomic_methods.proofs.striped.count_all.Goals as goal

-- the number of entries with one more stripe
length_more : (ts : List Table) (n : ℕ) (t : Table) → n < length ts → t ≡ get_or ts n t → length (all_entries (take (n + 1) ts)) ≡ length (all_entries (take n ts)) + length (map.entries t)
length_more ts n t lt is = ap (λ (es : List Entry). length es) (all_entries-more ts n t lt is) ∙ length-append (all_entries (take n ts)) (map.entries t)

-- there is room for the count of one more stripe
pub overflow_add-sum : goal.overflow_add-sum
overflow_add-sum c = omega (arith, c.requires, c.loop-stripe-test.true, c.loop-stripe.invariant.bounded, c.count-sum.ensures.bounded)

pub loop-stripe-preserved : goal.loop-stripe-preserved
loop-stripe-preserved c =
    let before = c.loop-stripe.invariant in
    record {
      counted = rw (before.counted, c.count-sum.ensures.value) (sym (length_more _ _ _ c.loop-stripe-test.true c.stripe-item.is));
      bounded = omega (arith, before.bounded, c.count-sum.ensures.bounded);
    }
