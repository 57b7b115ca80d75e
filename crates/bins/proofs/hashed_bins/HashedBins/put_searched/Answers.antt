use Rattle.std.proofs.Common.{◌≡◌, List, ℕ, length, sym, ap, subst, ◌∙◌}
use Rattle.std.specs.FinMap as map
use Rattle.bins.specs.Entries.{Distinct, entries_in}
use Rattle.bins.specs.Finders.{Finds}
use Rattle.bins.specs.Ranks.{Held, table_in}
use Rattle.bins.proofs.MapEdits.{on_err_anyway}
use Rattle.bins.proofs.DistinctEntries.{table_of, get_none}
use Rattle.bins.proofs.RankLemmas.{same_ranks}
use Rattle.bins.proofs.PairedEntries.{entry_lacks, over_distinct, over_table, over_length}
use Rattle.bins.proofs.hashed_bins.HashedBins.put_searched.Goals as goal

-- the key was there, and its value is written over
pub invariant_of-self : goal.invariant_of-self
invariant_of-self c =
    let same = c.self.invariant.2 in
    let bound = c.in-Some.ensures.bound in
    let keys = sym c.set_value.ensures.keys in
    let values = c.set_value.ensures.values in (
      subst (Finds c.self.inside.finder) keys c.self.invariant.0,
      subst (λ (ks : List (List ℕ)). Distinct (entries_in ks c.set_value.new.self.values)) keys (over_distinct _ _ same _ bound _ _ values c.self.invariant.1),
      subst (λ (ks : List (List ℕ)). length ks ≡ length c.set_value.new.self.values) keys (over_length _ _ same _ bound _ _ values),
    )

pub returns-in-Some-clause-ok : goal.returns-in-Some-clause-ok
returns-in-Some-clause-ok c =
    let keys = ap (λ (ks : List (List ℕ)). table_of (entries_in ks c.set_value.new.self.values)) c.set_value.ensures.keys in
    let written = over_table _ _ c.self.invariant.2 _ c.in-Some.ensures.bound _ _ c.set_value.ensures.values _ c.self.invariant.1 c.in-Some.ensures.found in
    rw (← c.self.view_is) (keys ∙ written ∙ ap (λ (v : List ℕ). map.insert (table_of (entries_in c.self.inside.rows.keys c.self.inside.rows.values)) c.args.key.now v) c.as_slice.ensures.value)

-- the key is absent
pub add-requires : goal.add-requires
add-requires c =
    let absent = entry_lacks _ _ c.self.invariant.2 _ c.in-None.ensures.absent in
    record { absent = sym (ap (λ (held : Held). map.get (table_in held) c.args.key.now) c.self.view_is) ∙ get_none _ _ absent }

-- memory fails only for a key that was not there
pub returns-in-None-clause-memory : goal.returns-in-None-clause-memory
returns-in-None-clause-memory c =
    let absent = entry_lacks _ _ c.self.invariant.2 _ c.in-None.ensures.absent in
    on_err_anyway _ (sym (ap (λ (held : Held). map.get (table_in held) c.args.key.now) c.self.view_is) ∙ get_none _ _ absent)

-- the keys stand as before
pub returns-in-Some-clause-ranks : goal.returns-in-Some-clause-ranks
returns-in-Some-clause-ranks c = same_ranks _ _ _ (c.set_value.ensures.keys ∙ ap (λ (held : Held). held.keys) c.self.view_is)
