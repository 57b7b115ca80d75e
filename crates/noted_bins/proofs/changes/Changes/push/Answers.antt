use Rattle.std.proofs.Common.{List, [], ◌∷◌, ◌++◌, refl, ap, ◌∙◌}
use Rattle.noted_bins.specs.declared.mark.Mark.{Mark}
use Rattle.noted_bins.proofs.MarkLemmas.{row_added_to}
use Rattle.noted_bins.proofs.changes.Changes.push.Goals as goal

pub returns-clause-ok : goal.returns-clause-ok
returns-clause-ok c =
    let entries = rw c.as_slice.ensures.value at c.in_ok-push.ensures.ok in
    rw (← c.self.view_is)
    (row_added_to _ _ _ _ _ _ _ _ c.self.invariant refl
    (c.push_reserved.ensures.items ∙ ap (λ (ms : List Mark). ms ++ c.args.mark ∷ []) c.try_reserve.ensures.items) entries)
