use Rattle.std.proofs.Common.{◌≡◌, List, ℕ, length, sym, ap, subst, ◌∙◌}
use Rattle.std.specs.FinMap as map
use Rattle.bins.specs.Entries.{Distinct, entries_in}
use Rattle.bins.specs.Finders.{Finds}
use Rattle.bins.proofs.DistinctEntries.{table_of}
use Rattle.bins.proofs.PairedEntries.{over_distinct, over_table, over_length}
use Rattle.bins.proofs.hashed_bins.HashedBinsBins.put.Goals as goal

-- the key was there, and its value is written over
pub invariant_of-self : goal.invariant_of-self
invariant_of-self c =
    let same = c.self.invariant.2 in
    let bound = c.in-Some.ensures.range in
    let keys = sym c.rewrite.ensures.keys in
    let values = c.in-Some.ensures.values in (
      subst (Finds c.self.inside.finder) keys c.self.invariant.0,
      subst (λ (ks : List (List ℕ)). Distinct (entries_in ks c.rewrite.new.self.values)) keys (over_distinct _ _ same _ bound _ _ values c.self.invariant.1),
      subst (λ (ks : List (List ℕ)). length ks ≡ length c.rewrite.new.self.values) keys (over_length _ _ same _ bound _ _ values),
    )

pub returns-in-Some-clause-ok : goal.returns-in-Some-clause-ok
returns-in-Some-clause-ok c =
    let keys = ap (λ (ks : List (List ℕ)). table_of (entries_in ks c.rewrite.new.self.values)) c.rewrite.ensures.keys in
    let key = c.as_slice-bytes.ensures.value ∙ c.key.ensures.value in
    let written = over_table _ _ c.self.invariant.2 _ c.in-Some.ensures.range _ _ c.in-Some.ensures.values _ c.self.invariant.1 (rw key at c.in-Some.ensures.found) in
    rw (← c.self.view_is) (keys ∙ written ∙ ap (λ (v : List ℕ). map.insert (table_of (entries_in c.self.inside.rows.keys c.self.inside.rows.values)) c.args.key.now v) c.as_slice.ensures.value)
