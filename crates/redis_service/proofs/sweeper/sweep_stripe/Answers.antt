use Rattle.std.proofs.Common.{◌≡◌, suc, refl, ◌∙◌, subst, arith}
use Rattle.bin_stripes.specs.declared.expiry.Expiry.{Expiry}
use Rattle.bin_stripes.specs.declared.expiry.Expiry.TheVariants.{Took}
use Rattle.bin_stripes.specs.Timed.{ExpiresOne}
use Rattle.key_walks.proofs.ChainLemmas.{same_map, same_on}
use Rattle.key_walks.proofs.ExpiryLemmas.{not_both}
use Rattle.redis_service.proofs.SweepLemmas.{took_more, stripe_swept}
use Rattle.redis_service.proofs.sweeper.sweep_stripe.Goals as goal

pub loop-init : goal.loop-init
loop-init g c = record { map = refl; same = same_map c.args.pass.now; took = (0, (refl, refl)) }

pub returns-then-not-is_took-clause-sweeps : goal.returns-then-not-is_took-clause-sweeps
returns-then-not-is_took-clause-sweeps g c =
    let (often, (at, looks)) = c.loop.invariant.took in
    let e = c.expire_one-answer.ensures in
    stripe_swept c.args.now c.args.pass.now c.args.stripe often c.loop.pass c.expire_one-answer.new.pass c.expire_one-answer.result looks e.same e.expires
    (omega (arith, at, c.loop-test.true)) (λ took. absurd (not_both c.is_took.result (c.is_took.ensures.1 took) c.if-not-is_took.true))

pub loop-preserved : goal.loop-preserved
loop-preserved g c =
    let p = c.args.pass.now in
    let q = c.loop.pass in
    let r = c.expire_one-answer.new.pass in
    let e = c.expire_one-answer.ensures in
    let inv = c.loop.invariant in
    let (often, (at, looks)) = inv.took in
    let took : c.expire_one-answer.result ≡ Took = c.is_took.ensures.0 c.if-not-is_took.false in
    record {
      map = e.same.map ∙ inv.map;
      same = same_on p q r inv.same e.same;
      took = (suc often, (omega (arith, at), took_more c.args.now p c.args.stripe often q r looks e.same (subst (λ (a : Expiry). ExpiresOne q c.args.stripe c.args.now a r) took e.expires)));
    }

pub returns-clause-sweeps : goal.returns-clause-sweeps
returns-clause-sweeps g c =
    let (often, (at, looks)) = c.loop.invariant.took in
    let e = c.expire_one-last.ensures in
    stripe_swept c.args.now c.args.pass.now c.args.stripe often c.loop.pass c.expire_one-last.new.pass c.expire_one-last.result looks e.same e.expires
    (omega (arith, at, c.loop.auto.counter-end)) (λ took. omega (arith, at, c.loop-test.false, c.loop.auto.counter-end))
