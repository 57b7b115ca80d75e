use Rattle.std.proofs.Common.{◌++◌, ℕ, List, map, ap, ◌∙◌}
use Rattle.bins.specs.Table.{Entry}
use Rattle.bins.specs.Entries.{entries_in}
use Rattle.bins.proofs.OrderedEntries.{paired-append, entries_apart}
use Rattle.bins.proofs.entry_list.EntryList.add_pairs.Goals as goal

-- the keys and the values of the entries come after those of the rows
pub returns-clause-ok : goal.returns-clause-ok
returns-clause-ok c =
    let es = c.args.pairs.now in
    let keys = c.push_pairs.ensures.keys ∙ ap (λ (xs : List (List ℕ)). xs ++ map (λ (e : Entry). e.0) es) c.reserve.ensures.keys in
    let values = c.push_pairs.ensures.values ∙ ap (λ (xs : List (List ℕ)). xs ++ map (λ (e : Entry). e.1) es) c.reserve.ensures.values in
    (λ i. entries_in (keys i) (values i)) ∙ paired-append _ _ c.self.invariant _ _ ∙ (λ i. c.self.view_is i ++ entries_apart es i)
