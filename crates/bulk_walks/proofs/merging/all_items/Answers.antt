use Rattle.std.proofs.Common.{◌≡◌, List, map, ap, ◌∙◌, subst}
use Rattle.bins.specs.Merged.{entry_at}
use Rattle.bins.specs.Table.{Entry}
use Rattle.bulk_walks.specs.declared.answers.Answers.{Answers}
use Rattle.bulk_walks.specs.Kept.{kept_in, lists_of_all}
use Rattle.bulk_walks.specs.Merges.{HasAll}
use Rattle.bulk_walks.proofs.merging.all_items.Goals as goal

-- the items at the positions, in the lists of all workers
pub returns : goal.returns
returns g c whole order has =
    let positions = c.in_ok-positions.positions.items in
    c.of_several.ensures ∙ ap (λ (lists : List (List Entry)). map (entry_at lists) positions) c.in_ok-lists.ensures
    ∙ subst (λ (xs : List Answers). HasAll whole (kept_in xs) → map (entry_at (lists_of_all xs)) positions ≡ whole) c.deref.ensures.value (c.in_ok-positions.ensures whole order) has
