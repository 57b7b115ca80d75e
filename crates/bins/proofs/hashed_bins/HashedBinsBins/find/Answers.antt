use Rattle.std.proofs.Common.{sym}
use Rattle.bins.proofs.DistinctEntries.{get_none}
use Rattle.bins.proofs.PairedEntries.{found_here, entry_lacks}
use Rattle.bins.proofs.hashed_bins.HashedBinsBins.find.Goals as goal

-- the value at the key's position was read
pub returns-in-Some : goal.returns-in-Some
returns-in-Some c =
    let value = found_here _ _ c.self.invariant.2 _ _ c.self.invariant.1 c.in-Some.ensures.bound c.in-Some.ensures.found in
    record { value = rw (← c.self.view_is) (cc (c.in-Some.ensures.value, value)); fits = c.in-Some.ensures.fits }

-- the key has no value
pub returns-in-None : goal.returns-in-None
returns-in-None c =
    let absent = entry_lacks _ _ c.self.invariant.2 _ c.in-None.ensures.absent in
    record { value = rw (← c.self.view_is) (sym (get_none _ _ absent)); fits = tt }
