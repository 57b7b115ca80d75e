use Rattle.std.proofs.Common.{◌≡◌, refl, sym, ap, ◌∙◌, arith}
use Rattle.atomic_table.specs.Seated.{TableId}
use Rattle.bin_stripes.specs.Passes.{stripes_of}
use Rattle.key_walks.proofs.ChainLemmas.{same_map, same_on, counted_none, counted_more, counted_all}
use Rattle.key_walks.proofs.counting.count_all.Goals as goal

pub loop-stripe-init : goal.loop-stripe-init
loop-stripe-init g c = record { map = refl; same = same_map c.args.pass.now; done = counted_none c.args.pass.now }

-- the sum fits
pub overflow_add-count : goal.overflow_add-count
overflow_add-count g c =
    let had = c.loop-stripe.invariant.done.bounded in
    let low = c.loop-stripe-test.true in
    let most = c.stripes-stripes.ensures.count.1 in
    let here = c.count_stripe-count.ensures.bounded in
    omega (arith, had, low, most, here, c.stripes-stripes.ensures.value)

pub loop-stripe-preserved : goal.loop-stripe-preserved
loop-stripe-preserved g c =
    let p = c.args.pass.now in
    let q = c.loop-stripe.pass in
    let r = c.count_stripe-count.new.pass in
    let e = c.count_stripe-count.ensures in
    let inv = c.loop-stripe.invariant in
    record {
      map = e.same.map ∙ inv.map;
      same = same_on p q r inv.same e.same;
      done = counted_more c.loop-stripe.stripe p q r c.loop-stripe.count c.count_stripe-count.result inv.done e.same e.counts e.bounded;
    }

pub returns-clause-counts : goal.returns-clause-counts
returns-clause-counts g c =
    let end : c.loop-stripe.stripe ≡ stripes_of c.args.map.now = omega (arith, c.loop-stripe-test.false, c.loop-stripe.auto.stripe-end, c.stripes-stripes.ensures.value) in
    counted_all c.loop-stripe.stripe c.args.pass.now c.loop-stripe.pass c.loop-stripe.count c.loop-stripe.invariant.done (end ∙ sym (ap (λ (m : TableId). stripes_of m) c.requires.map))
