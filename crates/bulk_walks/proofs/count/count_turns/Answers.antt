use Rattle.std.proofs.Common.{arith, ◌+◌, ◌^◌, refl, ap, ◌∙◌}
use Rattle.bin_stripes.specs.Passes.{PassState}
use Rattle.bulk_walks.proofs.Sums.{turn_sum-le}
use Rattle.bulk_walks.proofs.TeamLemmas.{at_most_64}
use Rattle.bulk_walks.proofs.CountLemmas.{counts_none, counts_more, counts_past, counts_at}
use Rattle.bulk_walks.proofs.count.count_turns.Goals as goal
use Rattle.bulk_walks.proofs.count.count_turns.Goals.{then-stripe-worker, else-stripe-worker}

pub loop-stripe-init : goal.loop-stripe-init
loop-stripe-init g c = record { map = refl; done = counts_none c.args.worker.now.workers c.args.worker.now.number c.args.pass.now.view }

-- the sum fits
pub overflow_add-count : goal.overflow_add-count
overflow_add-count g c =
    let bounded = turn_sum-le c.args.worker.now.workers c.args.worker.now.number (λ _. 2 ^ 57) (2 ^ 57) c.loop-stripe.stripe (λ _. omega arith) in
    let had = c.loop-stripe.invariant.done.bounded in
    let low = c.loop-stripe-test.true in
    let most = at_most_64 _ c.stripes-stripes.ensures.count in
    let here = c.count_stripe-count.ensures.bounded in
    omega (arith, bounded, had, low, most, here, c.stripes-stripes.ensures.value)

pub loop-stripe-preserved : goal.loop-stripe-preserved
loop-stripe-preserved g c =
    let W = c.args.worker.now.workers in
    let j = c.args.worker.now.number in
    let v = c.args.pass.now.view in
    let p = c.loop-stripe.pass in
    let n = c.loop-stripe.stripe in
    let inv = c.loop-stripe.invariant in
    elim c.if-stripe-worker.branch [
      | then-stripe-worker w ↦
          let q = w.count_stripe-count.new.pass in
          let e = w.count_stripe-count.ensures in
          record {
            map = ap (λ (p : PassState). p.map) w.pass-is ∙ e.same.map ∙ inv.map;
            done = counts_at (n + 1) W j v q _ _ _ (counts_more W j v n p q c.loop-stripe.count w.count_stripe-count.result inv.done w.if-stripe-worker.true e.same.passes e.counts e.bounded) w.pass-is w.count-is;
          }
      | else-stripe-worker w ↦ record {
        map = ap (λ (p : PassState). p.map) w.pass-is ∙ inv.map;
        done = counts_at (n + 1) W j v p _ _ _ (counts_past W j v n p.view c.loop-stripe.count inv.done w.if-stripe-worker.false) w.pass-is w.count-is;
      }
    ]
