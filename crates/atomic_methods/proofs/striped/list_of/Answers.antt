use Rattle.std.proofs.Common.{sum_by, take, sym, ap, ◌∙◌}
use Rattle.std.specs.FinMap as map
use Rattle.atomic_methods.specs.Whole.{all_entries}
use Rattle.atomic_methods.proofs.WholeLemmas.{all_entries-more, weigh_more}
use Rattle.atomic_methods.proofs.striped.list_of.Goals as goal

pub loop-stripe-preserved : goal.loop-stripe-preserved
loop-stripe-preserved c = λ weight.
    let adds = c.in_ok-copy_into.ensures.ok in
    ap (sum_by weight) adds.added ∙ weigh_more c.loop-stripe.found (all_entries (take c.loop-stripe.stripe-index c.args.stripes.now)) adds.copies (map.entries c.stripe-item.result) c.loop-stripe.invariant adds.are weight
    ∙ ap (sum_by weight) (sym (all_entries-more _ _ _ c.loop-stripe-test.true c.stripe-item.is))
