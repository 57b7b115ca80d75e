use Rattle.std.proofs.Common.{arith}
use Rattle.bins.specs.Copies.{AddsCopies}
use Rattle.noted_bins.proofs.AllLemmas.{all_added, as_many}
use Rattle.noted_bins.proofs.changes.Changes.add_all.Goals as goal

-- there are as many copies as entries
pub add_marks-requires-clause-room : goal.add_marks-requires-clause-room
add_marks-requires-clause-room g c =
    let many = as_many _ _ _ (record { copies = c.lend.result; are = c.lend.ensures.are; added = c.in_ok-add_all.ensures.ok }) in
    omega (arith, many, c.count.ensures.value, c.in_ok-try_reserve.ensures.ok, c.try_reserve.ensures.len, c.len-from.ensures.value)

pub returns-clause-ok : goal.returns-clause-ok
returns-clause-ok g c =
    let marks = rw (c.len-from.ensures.value, c.try_reserve.ensures.items) at c.add_marks.ensures in
    let copies : AddsCopies _ _ _ = record { copies = c.lend.result; are = c.lend.ensures.are; added = c.in_ok-add_all.ensures.ok } in
    rw (← c.self.view_is) (all_added _ _ _ _ _ c.self.invariant copies marks)
