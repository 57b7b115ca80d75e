use Rattle.std.proofs.Common.{arith, refl, ap, ◌<◌, length}
use Rattle.atomic_methods.proofs.ReplaceLemmas.{replaced_more, bounded_counts}
use Rattle.atomic_methods.proofs.striped.replace_stripes.Goals as goal

-- there is room for the count of one more stripe
pub overflow_add-scanned : goal.overflow_add-scanned
overflow_add-scanned c =
    let all = ap length c.deref_mut-stripe-items.ensures.value in
    omega (arith, all, c.requires.bounded, c.loop-stripe-test.true, c.loop-stripe.invariant.bounded_scanned, c.replace_each-counts.ensures.bounded)

pub overflow_add-given : goal.overflow_add-given
overflow_add-given c =
    let bounded = bounded_counts _ _ _ _ _ c.replace_each-counts.ensures.each in
    let all = ap length c.deref_mut-stripe-items.ensures.value in
    omega (arith, bounded.0, all, c.requires.bounded, c.loop-stripe-test.true, c.loop-stripe.invariant.bounded_scanned, c.loop-stripe.invariant.bounded_given, c.replace_each-counts.ensures.bounded)

pub overflow_add-unfit : goal.overflow_add-unfit
overflow_add-unfit c =
    let bounded = bounded_counts _ _ _ _ _ c.replace_each-counts.ensures.each in
    let all = ap length c.deref_mut-stripe-items.ensures.value in
    omega (arith, bounded.1, all, c.requires.bounded, c.loop-stripe-test.true, c.loop-stripe.invariant.bounded_scanned, c.loop-stripe.invariant.bounded_unfit, c.replace_each-counts.ensures.bounded)

pub loop-stripe-preserved : goal.loop-stripe-preserved
loop-stripe-preserved c =
    let before = c.loop-stripe.invariant in
    let bounded = bounded_counts _ _ _ _ _ c.replace_each-counts.ensures.each in
    let lt : c.loop-stripe.stripe-index < length c.loop-stripe.stripe-items = omega (arith, c.loop-stripe.auto.stripe-items, c.loop-stripe-test.true) in
    let more = replaced_more _ _ _ _ _ _ _ _ _ _ lt before.rest before.done c.replace_each-counts.ensures.each (record { scanned = refl; given = refl; unfit = refl }) in
    record {
      done = more.done;
      rest = more.rest;
      bounded_scanned = omega (arith, before.bounded_scanned, c.replace_each-counts.ensures.bounded);
      bounded_given = omega (arith, before.bounded_given, bounded.0);
      bounded_unfit = omega (arith, before.bounded_unfit, bounded.1);
    }
