use Rattle.std.proofs.Common.{sym}
use Rattle.bins.proofs.MapEdits.{get_at, get_gap}
use Rattle.bins.proofs.list_bins.ListBinsBins.find.Goals as goal

-- the entry at the key's position was read
pub returns-in-Ok : goal.returns-in-Ok
returns-in-Ok c =
    let bound = rw c.deref.ensures.value at c.in-Ok.ensures.bound in
    let found = rw c.deref.ensures.value at c.in-Ok.ensures.found in
    let value = get_at _ c.self.invariant _ _ bound found c.index.result.now in
    record { value = rw (← c.self.view_is) (cc (c.as_slice.ensures.value, c.index.ensures, value)); fits = c.as_slice.ensures.fits }

-- the key has no value
pub returns-in-Err : goal.returns-in-Err
returns-in-Err c =
    let bound = rw c.deref.ensures.value at c.in-Err.ensures.bound in
    let absent = rw c.deref.ensures.value at c.in-Err.ensures.absent in
    record { value = rw (← c.self.view_is) (sym (get_gap _ c.self.invariant _ _ bound absent)); fits = tt }
