use Rattle.std.proofs.Common.{◌≡◌, ℕ, Option, refl, sym, ap, ◌∙◌, arith}
use Rattle.atomic_table.specs.Seated.{TableId}
use Rattle.bin_stripes.specs.Passes.{stripes_of}
use Rattle.key_walks.proofs.ChainLemmas.{same_map, same_on}
use Rattle.redis_service.specs.Sweeps.{sooner}
use Rattle.redis_service.proofs.SweepLemmas.{swept_none, swept_more, swept_all, swept_keeps, or_took}
use Rattle.redis_service.proofs.sweeper.Sweeper.sweep.Goals as goal

pub loop-stripe-init : goal.loop-stripe-init
loop-stripe-init g c = record { map = refl; same = same_map c.args.pass.now; done = swept_none c.args.now c.args.pass.now }

pub loop-stripe-preserved : goal.loop-stripe-preserved
loop-stripe-preserved g c =
    let p = c.args.pass.now in
    let q = c.loop-stripe.pass in
    let r = c.sweep_stripe-answer.new.pass in
    let e = c.sweep_stripe-answer.ensures in
    let inv = c.loop-stripe.invariant in
    record {
      map = e.same.map ∙ inv.map;
      same = same_on p q r inv.same e.same;
      done = swept_more c.args.now c.loop-stripe.stripe p q r c.loop-stripe.next c.loop-stripe.is_more c.sweep_stripe-answer.result _ _ inv.done e.same e.sweeps
          (c.sooner-next.ensures ∙ ap (λ (at : Option ℕ). sooner c.loop-stripe.next at) c.next_after.ensures)
          (or_took c.loop-stripe.is_more c.is_took-is_more.result c.sweep_stripe-answer.result c.is_took-is_more.ensures);
    }

pub returns-clause-numbers : goal.returns-clause-numbers
returns-clause-numbers g c =
    swept_keeps c.args.now c.loop-stripe.stripe c.args.pass.now c.loop-stripe.pass c.loop-stripe.next c.loop-stripe.is_more c.loop-stripe.invariant.done

pub returns-clause-sweeps : goal.returns-clause-sweeps
returns-clause-sweeps g c =
    let end : c.loop-stripe.stripe ≡ stripes_of c.args.map.now = omega (arith, c.loop-stripe-test.false, c.loop-stripe.auto.stripe-end, c.stripes-stripe-end.ensures.value) in
    swept_all c.args.now c.loop-stripe.stripe c.args.pass.now c.loop-stripe.pass c.loop-stripe.next c.loop-stripe.is_more c.loop-stripe.invariant.done
    (end ∙ sym (ap (λ (m : TableId). stripes_of m) c.requires.map))
