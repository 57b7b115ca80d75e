use Rattle.std.proofs.Common.{rules, sym, arith}
use Rattle.bins.proofs.MapEdits.{sorted_remove, remove_found, get_gap, remove_absent}
use Rattle.bins.proofs.list_bins.ListBinsBins.discard.Goals as goal

-- the entry at the key's position is removed
pub invariant_of-self : goal.invariant_of-self
invariant_of-self c = search (rules, sorted_remove, c.self.invariant, c.remove.ensures.items)

pub returns-in-Ok : goal.returns-in-Ok
returns-in-Ok c =
    let bound = rw c.deref.ensures.value at c.in-Ok.ensures.bound in
    let found = rw c.deref.ensures.value at c.in-Ok.ensures.found in
    let removed = remove_found _ c.self.invariant _ _ bound found in
    record { others = rw (← c.self.view_is) (cc (removed, c.remove.ensures.items)); ranks = λ key there. omega arith }

-- the key had no value
pub returns-in_default : goal.returns-in_default
returns-in_default c =
    let bound = rw c.deref.ensures.value at c.in_default.ensures.bound in
    let absent = rw c.deref.ensures.value at c.in_default.ensures.absent in
    let none = get_gap _ c.self.invariant _ _ bound absent in
    record { others = sym (remove_absent _ _ (rw (← c.self.view_is) none)); ranks = λ key there. omega arith }
