use Rattle.std.proofs.Common.{List, subst}
use Rattle.std.specs.List.Sorted.{IsPermutation, IsSortedBy}
use Rattle.bins.specs.Table.{Entry}
use Rattle.bins.specs.Copies.{comes_before}
use Rattle.bins.specs.Entries.{entries_at}
use Rattle.bins.proofs.OrderedEntries.{moved, rising}
use Rattle.bins.proofs.entry_list.EntryList.order.Goals as goal

-- the entries at the positions, in the order of these
pub returns-clause-moved : goal.returns-clause-moved
returns-clause-moved c =
    let order = c.in_ok-order.order.items in
    subst (λ (es : List Entry). IsPermutation es (entries_at es order)) c.self.view_is (moved _ _ c.self.invariant order c.in_ok-order.ensures.moved)

pub returns-clause-order : goal.returns-clause-order
returns-clause-order c =
    let order = c.in_ok-order.order.items in
    subst (λ (es : List Entry). IsSortedBy comes_before (entries_at es order)) c.self.view_is (rising _ _ c.self.invariant order c.in_ok-order.ensures.order)
