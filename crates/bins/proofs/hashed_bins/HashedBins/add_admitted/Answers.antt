use Rattle.std.proofs.Common.{◌++◌, ◌∷◌, [], sym, ap, ◌∙◌, subst}
use Rattle.std.specs.FinMap as map
use Rattle.bins.specs.Entries.{Distinct}
use Rattle.bins.specs.Ranks.{Held, table_in}
use Rattle.bins.proofs.DistinctEntries.{table_of, pushed_distinct, pushed_table}
use Rattle.bins.proofs.PairedEntries.{entry_lacks, none_within, joined, joined_length}
use Rattle.bins.proofs.RankLemmas.{pushed_ranks}
use Rattle.bins.proofs.FinderLemmas.{stand_once}
use Rattle.bins.proofs.hashed_bins.HashedBins.add_admitted.Goals as goal

-- the key stands nowhere
pub push-requires-clause-new : goal.push-requires-clause-new
push-requires-clause-new c = rw c.reserve.ensures.keys (none_within _ _ c.self.invariant.2 _ c.self.invariant.1 (ap (λ (held : Held). map.get (table_in held) c.args.key.now) c.self.view_is ∙ c.requires.absent))

-- the entry goes to the end
pub settle-requires-clause-once : goal.settle-requires-clause-once
settle-requires-clause-once c =
    let ks = c.self.inside.rows.keys in
    let vs = c.self.inside.rows.values in
    let same = c.self.invariant.2 in
    let absent = entry_lacks ks vs same _ (none_within ks vs same _ c.self.invariant.1 (ap (λ (held : Held). map.get (table_in held) c.args.key.now) c.self.view_is ∙ c.requires.absent)) in
    let keys = c.push_reserved.ensures.keys ∙ (λ i. c.reserve.ensures.keys i ++ (c.as_slice.ensures.value ∙ c.key.ensures.value) i ∷ []) in
    let values = c.push_reserved.ensures.values ∙ (λ i. c.reserve.ensures.values i ++ c.as_slice-2.ensures.value i ∷ []) in
    let further = joined ks vs same _ _ _ _ keys values in
    stand_once _ _ (joined_length ks vs same _ _ _ _ keys values) (subst Distinct (sym further) (pushed_distinct _ _ _ c.self.invariant.1 absent))

pub invariant_of-self-2 : goal.invariant_of-self-2
invariant_of-self-2 c =
    let ks = c.self.inside.rows.keys in
    let vs = c.self.inside.rows.values in
    let same = c.self.invariant.2 in
    let absent = entry_lacks ks vs same _ (none_within ks vs same _ c.self.invariant.1 (ap (λ (held : Held). map.get (table_in held) c.args.key.now) c.self.view_is ∙ c.requires.absent)) in
    let keys = c.push_reserved.ensures.keys ∙ (λ i. c.reserve.ensures.keys i ++ (c.as_slice.ensures.value ∙ c.key.ensures.value) i ∷ []) in
    let values = c.push_reserved.ensures.values ∙ (λ i. c.reserve.ensures.values i ++ c.as_slice-2.ensures.value i ∷ []) in
    let further = joined ks vs same _ _ _ _ keys values in
    (c.settle.ensures.finds, subst Distinct (sym further) (pushed_distinct _ _ _ c.self.invariant.1 absent), joined_length ks vs same _ _ _ _ keys values)

pub returns-clause-ok : goal.returns-clause-ok
returns-clause-ok c =
    let ks = c.self.inside.rows.keys in
    let vs = c.self.inside.rows.values in
    let same = c.self.invariant.2 in
    let absent = entry_lacks ks vs same _ (none_within ks vs same _ c.self.invariant.1 (ap (λ (held : Held). map.get (table_in held) c.args.key.now) c.self.view_is ∙ c.requires.absent)) in
    let keys = c.push_reserved.ensures.keys ∙ (λ i. c.reserve.ensures.keys i ++ (c.as_slice.ensures.value ∙ c.key.ensures.value) i ∷ []) in
    let values = c.push_reserved.ensures.values ∙ (λ i. c.reserve.ensures.values i ++ c.as_slice-2.ensures.value i ∷ []) in
    rw (← c.self.view_is) (ap table_of (joined ks vs same _ _ _ _ keys values) ∙ pushed_table _ _ _ absent)

pub returns-clause-ranks : goal.returns-clause-ranks
returns-clause-ranks c =
    let keys = c.push_reserved.ensures.keys ∙ (λ i. c.reserve.ensures.keys i ++ (c.as_slice.ensures.value ∙ c.key.ensures.value) i ∷ []) in
    pushed_ranks _ c.args.key.now _ _ c.requires.absent (keys ∙ ap (λ (held : Held). held.keys ++ c.args.key.now ∷ []) c.self.view_is)
