use Rattle.std.proofs.Common.{◌≡◌, ℕ, ◌<◌, [], ◌∷◌, ◌++◌, List, sum_by, refl, sym, ap, ◌∙◌, subst, arith}
use Rattle.std.specs.FinMap as map
use Rattle.stripe_rule.specs.declared.view.View.{View}
use Rattle.stripe_rule.specs.Steps.{HasTaken}
use Rattle.stripe_rule.proofs.CloseLemmas.{taken_none}
use Rattle.bins.specs.Table.{Entry}
use Rattle.atomic_methods.specs.Whole.{all_entries}
use Rattle.atomic_methods.proofs.WholeLemmas.{weigh_more}
use Rattle.bin_stripes.specs.declared.ghost_action.GhostAction.{GhostAction}
use Rattle.bin_stripes.specs.Histories.{empty, does, Sound}
use Rattle.bin_stripes.proofs.StepLemmas.{holds_after, found_is}
use Rattle.bin_stripes.proofs.ClosingLemmas.{all_entries-push, carries_next, taken_next}
use Rattle.bin_stripes.proofs.close.entries_out.Goals as goal

pub loop-stripe-init : goal.loop-stripe-init
loop-stripe-init g c = let v = c.args.seat.now.me.0 in
    (refl, c.requires.rests.0.some, subst (λ n. Sound n v) c.requires.stripes c.requires.rests.1, ([], (λ weight. ap (λ (es : List Entry). sum_by weight es) c.new-found.ensures, taken_none (does c.args.table.now.table_id.slots) empty v)))

pub take_stripe-requires-clause-table : goal.take_stripe-requires-clause-table
take_stripe-requires-clause-table g c = (c.requires.table.0, c.loop-stripe.invariant.0 ∙ c.requires.table.1)

pub take_stripe-requires-clause-stripe : goal.take_stripe-requires-clause-stripe
take_stripe-requires-clause-stripe g c = subst (λ n. c.loop-stripe.stripe < n) c.requires.stripes c.loop-stripe-test.true

pub take_stripe-requires-clause-pass : goal.take_stripe-requires-clause-pass
take_stripe-requires-clause-pass g c = let inv = c.loop-stripe.invariant in (inv.1, inv.3.1.1.held c.loop-stripe.stripe (omega arith) ∙ c.requires.rests.0.idle c.loop-stripe.stripe)

pub bins_out-bins-requires-clause-table : goal.bins_out-bins-requires-clause-table
bins_out-bins-requires-clause-table g c = c.take_stripe.ensures.same.0 ∙ (c.loop-stripe.invariant.0 ∙ c.requires.table.1)

pub bins_out-bins-requires-clause-held : goal.bins_out-bins-requires-clause-held
bins_out-bins-requires-clause-held g c = holds_after g.B.Bins.table g.B.NotedBins.noted c.args.table.now.table_id.slots c.loop-stripe.stripe c.loop-stripe.seat.me c.take_stripe.new.seat.me c.loop-stripe.invariant.1 c.take_stripe.ensures.took

pub loop-stripe-preserved : goal.loop-stripe-preserved
loop-stripe-preserved g c = let inv = c.loop-stripe.invariant in let out = c.bins_out-bins.ensures in let n = c.args.table.now.table_id.slots in let k = c.loop-stripe.stripe in
    let w = c.loop-stripe.seat.me in let u = c.take_stripe.new.seat.me in let x = c.bins_out-bins.new.seat.me.0 in let bins = c.bins_out-bins.result in let took = c.take_stripe.ensures.took in
    let found = found_is g.B.Bins.table g.B.NotedBins.noted n k u bins out.out.0 (holds_after g.B.Bins.table g.B.NotedBins.noted n k w u inv.1 took) out.out.1.0 in (
      out.same.0 ∙ (c.take_stripe.ensures.same.0 ∙ inv.0),
      carries_next w.0 u.0 x k out.same.2 took.extends inv.1,
      subst (λ (z : View GhostAction). Sound n z) (sym out.same.2) took.sound,
      (
        inv.3.0 ++ g.B.Bins.table bins ∷ [],
        (
          λ weight. (let adds = c.in_ok-copy_into.ensures.ok in ap (λ (es : List Entry). sum_by weight es) adds.added ∙ weigh_more c.loop-stripe.found (all_entries inv.3.0) adds.copies (map.entries (g.B.Bins.table bins)) inv.3.1.0 adds.are weight ∙ ap (λ (es : List Entry). sum_by weight es) (sym (all_entries-push inv.3.0 (g.B.Bins.table bins)))),
          taken_next g.B.Bins.table g.B.NotedBins.noted n k c.args.seat.now.me.0 w u x inv.3.0 bins inv.3.1.1 took out.same.2 found,
        ),
      ),
    )

pub returns : goal.returns
returns g c = let inv = c.loop-stripe.invariant in let v = c.args.seat.now.me.0 in let w = c.loop-stripe.seat.me.0 in
    let end : c.loop-stripe.stripe ≡ c.args.stripes = (let t = c.loop-stripe-test.false in let e = c.loop-stripe.auto.stripe-end in omega arith) in record {
      ok = (
        inv.3.0,
        (
          inv.3.1.0,
          (
            subst (λ (z : ℕ × ℕ). HasTaken (does z.0) empty v z.1 inv.3.0 w) (λ i. (sym c.requires.stripes i, end i)) inv.3.1.1,
            subst (λ n. Sound n w) (sym c.requires.stripes) inv.2,
          ),
        ),
      );
    }
