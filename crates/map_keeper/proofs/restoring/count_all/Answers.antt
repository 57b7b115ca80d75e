use Rattle.std.proofs.Common.{◌∙◌, refl, arith}
use Rattle.map_keeper.proofs.RestoreLemmas.{counts_more, counts_none}
use Rattle.map_keeper.proofs.SaveLemmas.{same_then}
use Rattle.map_keeper.proofs.restoring.count_all.Goals as goal

pub loop-stripe-init : goal.loop-stripe-init
loop-stripe-init g c = record {
  map = refl;
  same = record { map = refl; passes = refl };
  counted = counts_none c.args.pass.now;
  bound = omega arith;
}

-- one stripe more
pub loop-stripe-preserved : goal.loop-stripe-preserved
loop-stripe-preserved g c =
    let before = c.loop-stripe.invariant in
    record {
      map = c.count_stripe-count.ensures.same.map ∙ before.map;
      same = same_then c.args.pass.now c.loop-stripe.pass c.count_stripe-count.new.pass before.same c.count_stripe-count.ensures.same;
      counted = counts_more c.loop-stripe.stripe c.args.pass.now c.loop-stripe.pass c.count_stripe-count.new.pass c.loop-stripe.count c.count_stripe-count.result before.counted c.count_stripe-count.ensures.counts;
      bound = omega (arith, before.bound, c.count_stripe-count.ensures.bounded);
    }
