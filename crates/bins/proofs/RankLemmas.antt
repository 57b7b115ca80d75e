-- The ranks of keys: what a push and a removal make of them.
use Rattle.std.proofs.Common.{◌≡◌, ◌≢◌, ℕ, zero, suc, ◌+◌, ◌-◌, ◌<◌, ◌≤◌, Bool, true, false, cond, List, [], ◌∷◌, ◌++◌, length, get_or, Some, None, refl, sym, ap, subst, ◌∙◌, arith, ◌⊎◌, inl, inr}
use Rattle.std.specs.List.{slice_get, swap_remove}
use Rattle.std.proofs.lemmas.Bool.{cases_eq}
use Rattle.std.proofs.lemmas.Option.{slice_get_within}
use Rattle.std.specs.FinMap as map
use Rattle.bins.specs.Table.{Entry, Table}
use Rattle.bins.specs.Entries.{Distinct, entries_in, entry_of}
use Rattle.bins.specs.Ranks.{rank_from, rank_in, KeepsRanks, IsOneOf}
use Rattle.bins.specs.Trees.{StandOnce}
use Rattle.bins.specs.declared.ranks.Ranks.{Ranks}
use Rattle.bins.proofs.DistinctEntries.{same_key, same_itself, alike, differ}
use Rattle.bins.proofs.FinderLemmas.{stands, read, stand_once}
use Rattle.bins.proofs.GapLemmas.{kept_else, kept_moved, one_less}
use Rattle.bins.proofs.PairedEntries.{paired-at, paired-length}

-- where a key stands among these, the first of which has position n
record Stands (n : ℕ) (keys : List (List ℕ)) (key : List ℕ) : Type 0 where
  pub at : ℕ
  pub there : slice_get keys at ≡ Some key
  pub rank : rank_from n keys key ≡ n + at

-- a key stands nowhere
record StandsNowhere (n : ℕ) (keys : List (List ℕ)) (key : List ℕ) : Type 0 where
  pub rank : rank_from n keys key ≡ 0
  pub none : (i : ℕ) → slice_get keys i ≢ Some key

same_there : {X : Type 0} (x y : X) → Some x ≡ Some y → x ≡ y
same_there x y e = cc

not_both : (b : Bool) → b ≡ true → b ≡ false → ⊥
not_both b t f = cc

none_first : (one : List ℕ) (keys : List (List ℕ)) (key : List ℕ) → same_key key one ≡ false → ((i : ℕ) → slice_get keys i ≢ Some key) → (i : ℕ) → slice_get (one ∷ keys) i ≢ Some key
none_first one keys key other none zero at = not_both _ (ap (same_key key) (same_there _ _ at) ∙ same_itself key) other
none_first one keys key other none (suc i) at = none i at

placed : (n : ℕ) (keys : List (List ℕ)) (key : List ℕ) → Stands n keys key ⊎ StandsNowhere n keys key
placed n [] key = inr (record { rank = refl; none = λ i at. cc })
placed n (one ∷ keys) key = by_test (placed (n + 1) keys key) (same_key key one) refl
  where
    by_test : Stands (n + 1) keys key ⊎ StandsNowhere (n + 1) keys key → (b : Bool) → same_key key one ≡ b → Stands n (one ∷ keys) key ⊎ StandsNowhere n (one ∷ keys) key
    by_test rest true e = inl (record { at = 0; there = ap Some (sym (alike key one e)); rank = ap (λ (b : Bool). cond b n (rank_from (n + 1) keys key)) e ∙ omega arith })
    by_test rest false e =
        let later = ap (λ (b : Bool). cond b n (rank_from (n + 1) keys key)) e in
        elim rest [
          | inl s ↦ inl (record { at = suc s.at; there = s.there; rank = later ∙ s.rank ∙ omega arith })
          | inr s ↦ inr (record { rank = later ∙ s.rank; none = none_first one keys key e s.none })
        ]

-- a key that stands once has its position for a rank
pub rank_at : (keys : List (List ℕ)) (key : List ℕ) (i : ℕ) → StandOnce keys → slice_get keys i ≡ Some key → rank_in keys key ≡ i
rank_at keys key i once at = elim (placed 0 keys key) [
  | inl s ↦ omega (arith, s.rank, once s.at i key s.there at)
  | inr s ↦ absurd (s.none i at)
]

-- each key stands where it stood, or has moved down
abbrev MovesDown : List (List ℕ) → List (List ℕ) → Type 0
MovesDown old new = (key : List ℕ) (i : ℕ) → slice_get new i ≡ Some key → (j : ℕ) × ((i ≤ j) × (slice_get old j ≡ Some key))

keeps_ranks : (table : Table) (old new : List (List ℕ)) → StandOnce old → MovesDown old new → KeepsRanks table old new
keeps_ranks table old new once moves key there = elim (placed 0 new key) [
  | inl s ↦ let from = moves key s.at s.there in omega (arith, s.rank, from.1.0, rank_at old key from.0 once from.1.1)
  | inr s ↦ omega (arith, s.rank)
]

-- nothing moved
pub same_ranks : (table : Table) (old new : List (List ℕ)) → new ≡ old → KeepsRanks table old new
same_ranks table old new same key there = omega (arith, ap (λ (keys : List (List ℕ)). rank_in keys key) same)

-- a key is added after the others
pushed_rank : (n : ℕ) (keys : List (List ℕ)) (key other : List ℕ) → other ≢ key → rank_from n (keys ++ key ∷ []) other ≡ rank_from n keys other
pushed_rank n [] key other differs = ap (λ (b : Bool). cond b n 0) (differ other key differs)
pushed_rank n (one ∷ keys) key other differs = ap (cond (same_key other one) n) (pushed_rank (n + 1) keys key other differs)

pub pushed_ranks : (table : Table) (key : List ℕ) (old new : List (List ℕ)) → map.get table key ≡ None → new ≡ old ++ key ∷ [] → KeepsRanks table old new
pushed_ranks table key old new absent is other there =
    let pushed = pushed_rank 0 old key other (λ same. there (ap (map.get table) same ∙ absent)) in
    omega (arith, ap (λ (keys : List (List ℕ)). rank_in keys other) is, pushed)

-- the last key takes the rank of one that is removed
pub removed_ranks : (table : Table) (old new : List (List ℕ)) (p : ℕ) → StandOnce old → p < length old → new ≡ swap_remove old p [] → KeepsRanks table old new
removed_ranks table old new p once lt is = keeps_ranks table old new once (λ key i at. down key i (sym (ap (λ (keys : List (List ℕ)). slice_get keys i) is) ∙ at))
  where
    down : (key : List ℕ) (i : ℕ) → slice_get (swap_remove old p []) i ≡ Some key → (j : ℕ) × ((i ≤ j) × (slice_get old j ≡ Some key))
    down key i at =
        let inside : i < length old - 1 = omega (arith, slice_get_within (swap_remove old p []) i key at, one_less old p [] [] lt) in
        elim (cases_eq i p) [
          | inl here ↦
              let moved = subst (λ (k : ℕ). get_or (swap_remove old p []) k [] ≡ get_or old (length old - 1) []) (sym here) (kept_moved old p [] [] lt (omega (arith, here, inside))) in
              (length old - 1, (omega (arith, inside), stands old (length old - 1) [] (omega (arith, inside)) ∙ ap Some (sym moved ∙ read (swap_remove old p []) i [] key at)))
          | inr apart ↦
              (i, (omega arith, stands old i [] (omega (arith, inside)) ∙ ap Some (sym (kept_else old p [] [] lt i inside apart) ∙ read (swap_remove old p []) i [] key at)))
        ]

-- among entries that are lent, one whose key has a rank stands there
pub lent_at : (keys values : List (List ℕ)) (lent : List Entry) (ranks : Ranks) → length keys ≡ length values → Distinct (entries_in keys values) → lent ≡ entries_in keys values
    → (p : ℕ) → p < length lent → IsOneOf ranks (rank_in keys (entry_of lent p).0) → IsOneOf ranks p
lent_at keys values lent ranks same distinct is p lt one =
    let below : p < length keys = omega (arith, lt, ap (λ (es : List Entry). length es) is, paired-length keys values same) in
    let key : (entry_of lent p).0 ≡ get_or keys p [] = ap (λ (es : List Entry). (entry_of es p).0) is ∙ ap (λ (e : Entry). e.0) (paired-at keys values p ([], []) same below) in
    let there : slice_get keys p ≡ Some (entry_of lent p).0 = stands keys p [] below ∙ ap Some (sym key) in
    subst (IsOneOf ranks) (rank_at keys _ p (stand_once keys values same distinct) there) one
