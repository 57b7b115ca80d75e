use Rattle.std.proofs.Common.{List, length, sum_by, ap, ◌∙◌}
use Rattle.bulk_walks.specs.declared.answers.Answers.{Answers}
use Rattle.bulk_walks.proofs.MergeLemmas.{ordered_all}
use Rattle.bulk_walks.proofs.StandLemmas.{scanned_same, unfit_same}
use Rattle.bulk_walks.proofs.merging.merged.Goals as goal

-- as many items are in order as were counted
pub items_of-requires-clause-counted : goal.items_of-requires-clause-counted
items_of-requires-clause-counted g c κs within =
    c.total_of-total.ensures.given ∙ ap (λ (xs : List Answers). sum_by (λ a. length a.order.items) xs) c.deref.ensures.value ∙ ordered_all c.args.all.items

pub returns : goal.returns
returns g c replies stand = record {
  items = c.in_ok-items.ensures replies stand;
  scanned = c.total_of-total.ensures.scanned ∙ ap (λ (xs : List Answers). sum_by (λ a. a.scanned) xs) c.deref.ensures.value ∙ scanned_same c.args.kind replies c.args.all.items stand;
  given = c.len-given.ensures.value;
  unfit = c.total_of-total.ensures.unfit ∙ ap (λ (xs : List Answers). sum_by (λ a. a.unfit) xs) c.deref.ensures.value ∙ unfit_same c.args.kind replies c.args.all.items stand;
}
