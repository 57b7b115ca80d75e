use Rattle.std.proofs.Common.{rules, sym, ap, ◌∙◌}
use Rattle.std.specs.FinMap as map
use Rattle.bins.specs.Table.{Table}
use Rattle.bins.proofs.MapEdits.{on_err_anyway, sorted_write, insert_at, get_gap, sorted_insert, insert_gap}
use Rattle.bins.proofs.list_bins.ListBinsBins.put.Goals as goal

-- the key was there, and its value is replaced
pub invariant_of-self : goal.invariant_of-self
invariant_of-self c = search (rules, sorted_write, c.self.invariant, c.index_mut.ensures.value)

pub returns-in-Ok-clause-ok : goal.returns-in-Ok-clause-ok
returns-in-Ok-clause-ok c =
    let bound = rw c.deref.ensures.value at c.in-Ok.ensures.bound in
    let found = rw c.deref.ensures.value at c.in-Ok.ensures.found in
    let written = insert_at _ c.self.invariant _ _ bound found c.index_mut.result.now c.args.value.now in
    rw (← c.self.view_is) (cc (written, c.index_mut.ensures.value))

-- the entry is added in the gap
pub invariant_of-self-in-Err : goal.invariant_of-self-in-Err
invariant_of-self-in-Err c =
    let bound = rw c.deref.ensures.value at c.in-Err.ensures.bound in
    let absent = rw c.deref.ensures.value at c.in-Err.ensures.absent in
    rw (c.in_ok-add_entry-in-Err.ensures.ok, c.new_entry.ensures) (sorted_insert _ c.self.invariant _ _ bound absent _)

pub returns-in_ok-add_entry-in-Err-clause-ok : goal.returns-in_ok-add_entry-in-Err-clause-ok
returns-in_ok-add_entry-in-Err-clause-ok c =
    let bound = rw c.deref.ensures.value at c.in-Err.ensures.bound in
    let absent = rw c.deref.ensures.value at c.in-Err.ensures.absent in
    rw (c.in_ok-add_entry-in-Err.ensures.ok, c.new_entry.ensures, ← c.self.view_is) (insert_gap _ c.self.invariant _ _ bound absent _)

-- memory fails only if the key was absent
pub returns-in_err-add_entry-in-Err-clause-memory : goal.returns-in_err-add_entry-in-Err-clause-memory
returns-in_err-add_entry-in-Err-clause-memory c =
    let bound = rw c.deref.ensures.value at c.in-Err.ensures.bound in
    let absent = rw c.deref.ensures.value at c.in-Err.ensures.absent in
    on_err_anyway _ (sym (ap (λ (table : Table). map.get table c.args.key.now) c.self.view_is) ∙ get_gap _ c.self.invariant _ _ bound absent)
