use Rattle.std.proofs.Common.{◌≡◌, ℕ, List, refl, sym, ap, subst, ◌∙◌, arith}
use Rattle.atomic_table.specs.Seated.{TableId}
use Rattle.bin_stripes.specs.Passes.{stripes_of}
use Rattle.key_walks.specs.Turns.{Chain}
use Rattle.key_walks.specs.Walks.{Removes}
use Rattle.key_walks.proofs.ChainLemmas.{same_map, same_on, on_err}
use Rattle.key_walks.proofs.ClearingLemmas.{cleared_none, cleared_more, cleared_all, cleared_stops}
use Rattle.key_walks.proofs.clearing.remove_all.Goals as goal

pub loop-stripe-init : goal.loop-stripe-init
loop-stripe-init g c = record { map = refl; same = same_map c.args.pass.now; done = cleared_none c.args.pass.now }

pub returns-in_err-keys-clause-same : goal.returns-in_err-keys-clause-same
returns-in_err-keys-clause-same g c = same_on c.args.pass.now c.loop-stripe.pass c.stripe_keys.new.pass c.loop-stripe.invariant.same c.in_err-keys.ensures.same

pub returns-in_err-keys-clause-err : goal.returns-in_err-keys-clause-err
returns-in_err-keys-clause-err g c =
    on_err _ (cleared_stops c.loop-stripe.stripe c.args.pass.now c.loop-stripe.pass c.stripe_keys.new.pass c.loop-stripe.invariant.done c.in_err-keys.ensures.err)

pub loop-stripe-preserved : goal.loop-stripe-preserved
loop-stripe-preserved g c =
    let p = c.args.pass.now in
    let q = c.loop-stripe.pass in
    let r = c.stripe_keys.new.pass in
    let s = c.remove_each.new.pass in
    let found = c.in_ok-keys.ensures in
    let gone = c.remove_each.ensures in
    let inv = c.loop-stripe.invariant in
    record {
      map = gone.same.map ∙ found.same.map ∙ inv.map;
      same = same_on p r s (same_on p q r inv.same found.same) gone.same;
      done = cleared_more c.loop-stripe.stripe p q r s c.in_ok-keys.keys.items inv.done found.same found.ok gone.same
          (subst (λ (ks : List (List ℕ)). Chain Removes r ks s) c.deref.ensures.value gone.removes);
    }

pub returns-clause-ok : goal.returns-clause-ok
returns-clause-ok g c =
    let end : c.loop-stripe.stripe ≡ stripes_of c.args.map.now = omega (arith, c.loop-stripe-test.false, c.loop-stripe.auto.stripe-end, c.stripes-stripes.ensures.value) in
    cleared_all c.loop-stripe.stripe c.args.pass.now c.loop-stripe.pass c.loop-stripe.invariant.done (end ∙ sym (ap (λ (m : TableId). stripes_of m) c.requires.map))
