use Rattle.std.proofs.Common.{◌++◌, ℕ, List, ap, ◌∙◌}
use Rattle.bins.specs.Table.{Entry}
use Rattle.bins.specs.Entries.{entries_in}
use Rattle.bins.proofs.OrderedEntries.{paired-append}
use Rattle.bins.proofs.entry_list.EntryList.add_rows.Goals as goal

-- the keys and the values of the others come after these
pub returns-clause-ok : goal.returns-clause-ok
returns-clause-ok c =
    let keys = c.push_all.ensures.keys ∙ ap (λ (xs : List (List ℕ)). xs ++ c.args.rows.now.keys) c.reserve.ensures.keys in
    let values = c.push_all.ensures.values ∙ ap (λ (xs : List (List ℕ)). xs ++ c.args.rows.now.values) c.reserve.ensures.values in
    (λ i. entries_in (keys i) (values i)) ∙ paired-append _ _ c.self.invariant _ _ ∙ ap (λ (es : List Entry). es ++ entries_in c.args.rows.now.keys c.args.rows.now.values) c.self.view_is
