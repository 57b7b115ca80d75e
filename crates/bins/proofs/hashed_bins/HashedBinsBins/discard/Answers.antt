use Rattle.std.proofs.Common.{◌<◌, [], length, arith, sym, ap, subst, ◌∙◌}
use Rattle.bins.specs.Entries.{Distinct, entries_in}
use Rattle.bins.specs.Finders.{Finds}
use Rattle.bins.proofs.FinderLemmas.{stand_once}
use Rattle.bins.proofs.RankLemmas.{removed_ranks}
use Rattle.bins.proofs.MapEdits.{remove_absent}
use Rattle.bins.proofs.DistinctEntries.{table_of, get_none, removed_distinct, removed_table}
use Rattle.bins.proofs.PairedEntries.{paired-length, entry_found, entry_lacks, parted, parted_length}
use Rattle.bins.proofs.hashed_bins.HashedBinsBins.discard.Goals as goal

-- the entry at the key's position is removed
pub invariant_of-self : goal.invariant_of-self
invariant_of-self c =
    let ks = c.self.inside.rows.keys in
    let vs = c.self.inside.rows.values in
    let same = c.self.invariant.2 in
    let bound = c.in-Some.ensures.bound in
    let inside : c.in-Some.position < length (entries_in ks vs) = omega (arith, bound, paired-length ks vs same) in
    let found = entry_found ks vs same _ _ bound c.in-Some.ensures.found in
    let left = parted ks vs same _ bound _ _ c.swap_remove-in-Some.ensures.keys c.swap_remove-in-Some.ensures.values in (
      subst (Finds c.swap_remove.new.self) (sym c.swap_remove-in-Some.ensures.keys) c.swap_remove.ensures.finds,
      subst Distinct (sym left) (removed_distinct _ _ ([], []) _ c.self.invariant.1 inside found),
      parted_length ks vs same _ bound _ _ c.swap_remove-in-Some.ensures.keys c.swap_remove-in-Some.ensures.values,
    )

pub returns-in-Some : goal.returns-in-Some
returns-in-Some c =
    let ks = c.self.inside.rows.keys in
    let vs = c.self.inside.rows.values in
    let same = c.self.invariant.2 in
    let bound = c.in-Some.ensures.bound in
    let inside : c.in-Some.position < length (entries_in ks vs) = omega (arith, bound, paired-length ks vs same) in
    let found = entry_found ks vs same _ _ bound c.in-Some.ensures.found in
    let left = parted ks vs same _ bound _ _ c.swap_remove-in-Some.ensures.keys c.swap_remove-in-Some.ensures.values in
    record {
      others = rw (← c.self.view_is) (ap table_of left ∙ removed_table _ _ ([], []) _ c.self.invariant.1 inside found);
      ranks = rw (← c.self.view_is) (removed_ranks _ _ _ _ (stand_once _ _ same c.self.invariant.1) bound c.swap_remove-in-Some.ensures.keys);
    }

-- the key had no value
pub returns-in_default : goal.returns-in_default
returns-in_default c =
    let absent = entry_lacks _ _ c.self.invariant.2 _ c.in_default.ensures.absent in
    let none = get_none _ _ absent in
    record { others = sym (remove_absent _ _ (rw (← c.self.view_is) none)); ranks = λ key there. omega arith }
