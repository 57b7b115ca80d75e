use Rattle.std.proofs.Common.{sym, ap, ◌∙◌, length, List}
use Rattle.std.specs.FinMap as map
use Rattle.std.specs.FinMap.{entries-from_sorted}
use Rattle.bins.specs.Table.{Entry, Table, by_bytes}
use Rattle.bins.proofs.list_bins.ListBinsBins.count.Goals as goal

-- the table's entries are the list
pub returns-clause-value : goal.returns-clause-value
returns-clause-value c =
    let listed = entries-from_sorted by_bytes c.self.inside.entries.items c.self.invariant in
    c.count_of.ensures.value ∙ ap (λ (es : List Entry). length es) (c.deref.ensures.value ∙ sym listed) ∙ ap (λ (t : Table). length (map.entries t)) c.self.view_is
