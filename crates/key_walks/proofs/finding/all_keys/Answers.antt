use Rattle.std.proofs.Common.{◌≡◌, ℕ, ◌+◌, List, refl, sym, ap, subst, ◌∙◌, arith}
use Rattle.atomic_table.specs.Seated.{TableId}
use Rattle.bin_stripes.specs.Passes.{stripes_of}
use Rattle.key_walks.proofs.ChainLemmas.{same_map, same_on, on_err}
use Rattle.key_walks.proofs.FindingLemmas.{Found, found_none, found_more, found_at, found_all, found_stops, live_scanned_once}
use Rattle.key_walks.proofs.finding.all_keys.Goals as goal

pub loop-stripe-init : goal.loop-stripe-init
loop-stripe-init g c = record {
  map = refl;
  same = same_map c.args.pass.now;
  done = subst (λ (ks : List (List ℕ)). Found c.args.now 0 c.args.pass.now ks c.args.pass.now) (sym c.new-keys.ensures.items) (found_none c.args.now c.args.pass.now);
}

pub returns-in_err-more-clause-same : goal.returns-in_err-more-clause-same
returns-in_err-more-clause-same g c = same_on c.args.pass.now c.loop-stripe.pass c.live_keys.new.pass c.loop-stripe.invariant.same c.in_err-more.ensures.same

pub returns-in_err-more-clause-err : goal.returns-in_err-more-clause-err
returns-in_err-more-clause-err g c =
    on_err _ (found_stops c.args.now c.loop-stripe.stripe c.args.pass.now c.loop-stripe.pass c.live_keys.new.pass c.loop-stripe.keys.items c.loop-stripe.invariant.done c.in_err-more.ensures.err)

pub returns-in_err-add_all-clause-same : goal.returns-in_err-add_all-clause-same
returns-in_err-add_all-clause-same g c = same_on c.args.pass.now c.loop-stripe.pass c.live_keys.new.pass c.loop-stripe.invariant.same c.in_ok-more.ensures.same

pub returns-in_err-add_all-clause-err : goal.returns-in_err-add_all-clause-err
returns-in_err-add_all-clause-err g c =
    on_err _ (found_stops c.args.now c.loop-stripe.stripe c.args.pass.now c.loop-stripe.pass c.live_keys.new.pass c.loop-stripe.keys.items c.loop-stripe.invariant.done
    (live_scanned_once c.args.now c.loop-stripe.pass c.live_keys.new.pass c.loop-stripe.stripe c.in_ok-more.more.items c.in_ok-more.ensures.ok))

pub loop-stripe-preserved : goal.loop-stripe-preserved
loop-stripe-preserved g c =
    let p = c.args.pass.now in
    let q = c.loop-stripe.pass in
    let r = c.live_keys.new.pass in
    let e = c.in_ok-more.ensures in
    let inv = c.loop-stripe.invariant in
    record {
      map = e.same.map ∙ inv.map;
      same = same_on p q r inv.same e.same;
      done = found_at c.args.now (c.loop-stripe.stripe + 1) p r _ _ (found_more c.args.now c.loop-stripe.stripe p q r c.loop-stripe.keys.items c.in_ok-more.more.items inv.done e.same e.ok) c.in_ok-add_all.ensures;
    }

pub returns-clause-ok : goal.returns-clause-ok
returns-clause-ok g c =
    let end : c.loop-stripe.stripe ≡ stripes_of c.args.map.now = omega (arith, c.loop-stripe-test.false, c.loop-stripe.auto.stripe-end, c.stripes-stripes.ensures.value) in
    found_all c.args.now c.loop-stripe.stripe c.args.pass.now c.loop-stripe.pass c.loop-stripe.keys.items c.loop-stripe.invariant.done (end ∙ sym (ap (λ (m : TableId). stripes_of m) c.requires.map))
