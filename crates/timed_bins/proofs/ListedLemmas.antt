-- Deadlines that are listed: what a change of a row, an entry or the top's going leaves.
use Rattle.std.proofs.Common.{◌≡◌, ◌≢◌, ℕ, zero, suc, ◌+◌, ◌<◌, ◌≤◌, true, false, is_eq, nat_le, List, ◌∷◌, length, Option, Some, None, Ordering, Less, Equal, Greater, refl, sym, ap, subst, ◌∙◌, ◌⊎◌, inl, inr, arith, rules}
use Rattle.std.specs.Prelude.{option_map}
use Rattle.std.specs.List.{All, Contains}
use Rattle.std.specs.List.Sorted.{IsPermutation}
use Rattle.std.specs.Cmp.{tied_itself}
use Rattle.std.specs.FinMap as map
use Rattle.std.proofs.lemmas.List.Elements.{All-contains}
use Rattle.std.proofs.lemmas.List.Sorted.{Contains-permutation, length_permutation}
use Rattle.std.proofs.lemmas.Bool.{cases_lt}
use Rattle.bins.specs.Entries.{entry_of}
use Rattle.bins.specs.Table.{Entry, Table, by_bytes}
use Rattle.bins.proofs.MapEdits.{total, antisymmetric}
use Rattle.timed_bins.specs.Agendas.{AreListed, AreRowsListed, Due, HasRoom, Schedule, SetsDeadline, deadline_of, first_of, number_of}
use Rattle.timed_bins.specs.Deadlines.{is_over}
use Rattle.timed_bins.specs.Looks.{WaitsFor}

-- a deadline has a row
pub has_row : (row : Option (List ℕ)) (deadline : ℕ) → option_map number_of row ≡ Some deadline
    → (bytes : List ℕ) × ((row ≡ Some bytes) × (number_of bytes ≡ deadline))
has_row None deadline e = absurd cc
has_row (Some bytes) deadline e = (bytes, (refl, some_same e))
  where
    unwrapped : Option ℕ → ℕ
    unwrapped (Some n) = n
    unwrapped None = 0

    some_same : {x y : ℕ} → Some x ≡ Some y → x ≡ y
    some_same e = ap unwrapped e

-- what a list has after its first element
behind_first : {X : Type 0} (y x : X) (ys : List X) → Contains (y ∷ ys) x → (y ≡ x) ⊎ Contains ys x
behind_first y x ys (zero, lt, e) = inl e
behind_first y x ys (suc k, lt, e) = inr (k, omega (arith, lt), e)

has_first : {X : Type 0} (x : X) (xs : List X) → Contains (x ∷ xs) x
has_first x xs = (0, omega arith, refl)

has_behind : {X : Type 0} (y x : X) (ys : List X) → Contains ys x → Contains (y ∷ ys) x
has_behind y x ys (k, lt, e) = (suc k, omega (arith, lt), e)

-- none is sooner than the soonest that is listed
pub waits : (times : Table) (listed : List Due) (now at : ℕ) → now < at → All {X = Due} (λ other. at ≤ other.0) listed → AreListed times listed → WaitsFor times now at
waits times listed now at later soonest are = record {
  later = later;
  none_before = λ key deadline e.
      let row = has_row (map.get times key) deadline e in
      let le : at ≤ number_of row.0 = All-contains {X = Due} (λ other. at ≤ other.0) listed (number_of row.0, key) soonest (are key row.0 row.1.0) in
      subst (λ (n : ℕ). at ≤ n) row.1.1 le;
}

-- fewer are listed once the top went
pub shorter : (old new : List Due) (due : Due) → IsPermutation old (due ∷ new) → length new < length old
shorter old new due moved = let same = length_permutation old (due ∷ new) moved in omega (arith, same)

over_at : (at now : ℕ) → at ≤ now → nat_le at now ≡ true
over_at at now le = search (rules, le)

-- the top goes, which holds no more
pub dropped : (times : Table) (old new : List Due) (at now : ℕ) (key : List ℕ) → IsPermutation {X = Due} old ((at, key) ∷ new) → at ≤ now
    → is_over (deadline_of times key) now ≡ false → AreListed times old → AreListed times new
dropped times old new at now key moved le holds are other bytes there =
    elim (behind_first {X = Due} (at, key) (number_of bytes, other) new (Contains-permutation old ((at, key) ∷ new) (number_of bytes, other) moved (are other bytes there))) [
      | inl same ↦ absurd (
          let keys : key ≡ other = ap (λ (due : Due). due.1) same in
          let times_same : at ≡ number_of bytes = ap (λ (due : Due). due.0) same in
          let deadline : deadline_of times key ≡ Some at = ap (deadline_of times) keys ∙ ap (option_map number_of) there ∙ ap (λ (n : ℕ). Some n) (sym times_same) in
          let over : is_over (deadline_of times key) now ≡ true = ap (λ (d : Option ℕ). is_over d now) deadline ∙ over_at at now le in
          cc)
      | inr behind ↦ behind
    ]

-- one more is listed
pub pushed : (times : Table) (old new : List Due) (due : Due) → IsPermutation (due ∷ old) new → AreListed times old → AreListed times new
pushed times old new due moved are other bytes there =
    Contains-permutation (due ∷ old) new (number_of bytes, other) moved (has_behind due (number_of bytes, other) old (are other bytes there))

-- and it is the one that was added
pub has_pushed : (old new : List Due) (due : Due) → IsPermutation (due ∷ old) new → Contains new due
has_pushed old new due moved = Contains-permutation (due ∷ old) new due moved (has_first due old)

-- two keys that do not tie differ
pub unlike : (one other : List ℕ) (r : Ordering) → by_bytes one other ≡ r → is_eq r ≡ false → one ≢ other
unlike one other r is fails same =
    let tied : by_bytes one other ≡ Equal = ap (by_bytes one) (sym same) ∙ tied_itself total one in
    let both = ap is_eq (sym is ∙ tied) in cc

-- a deadline was set that is listed
pub listed_set : (old new : Table) (key : List ℕ) (at : ℕ) (listed : List Due) → SetsDeadline old new key (Some at)
    → Contains listed (at, key) → AreListed old listed → AreListed new listed
listed_set old new key at listed sets has are other bytes there = by_order (by_bytes other key) refl
  where
    number_in : Option (List ℕ) → ℕ
    number_in (Some row) = number_of row
    number_in None = 0

    beside : other ≢ key → Contains listed (number_of bytes, other)
    beside h = are other bytes (sym (sets.others other h) ∙ there)

    by_order : (r : Ordering) → by_bytes other key ≡ r → Contains listed (number_of bytes, other)
    by_order Less is = beside (unlike other key Less is refl)
    by_order Greater is = beside (unlike other key Greater is refl)
    by_order Equal is =
        let keys : other ≡ key = antisymmetric other key is in
        let row = has_row (map.get new key) at sets.here in
        let bytes_same : Some bytes ≡ Some row.0 = sym there ∙ ap (λ (k : List ℕ). map.get new k) keys ∙ row.1.0 in
        let number : at ≡ number_of bytes = sym row.1.1 ∙ ap number_in (sym bytes_same) in
        subst (λ (due : Due). Contains listed due) (λ i. (number i, sym keys i)) has

-- there is room for a deadline: a row, and it is listed
pub room_for : (schedule : Schedule) (key : List ℕ) (at held : ℕ) → deadline_of schedule.times key ≡ Some held → Contains schedule.listed (at, key) → HasRoom schedule key at
room_for schedule key at held is has =
    let row = has_row (map.get schedule.times key) held is in
    record { row = row.0; has_row = row.1.0; listed = has }

-- the first rows are listed, and one more
pub one_more : (rows : List Entry) (many : ℕ) (old new : List Due) (entry : Entry) (at : ℕ) (key : List ℕ) → entry ≡ entry_of rows many
    → at ≡ number_of entry.1 → key ≡ entry.0 → AreRowsListed rows many old → IsPermutation {X = Due} ((at, key) ∷ old) new → AreRowsListed rows (many + 1) new
one_more rows many old new entry at key is number key_is are moved k lt = elim (cases_lt k many) [
  | inl less ↦ Contains-permutation ((at, key) ∷ old) new _ moved (has_behind {X = Due} (at, key) _ old (are k less))
  | inr ge ↦
      let same : many ≡ k = omega (arith, lt, ge) in
      let there : entry ≡ entry_of rows k = is ∙ ap (entry_of rows) same in
      let number_there : at ≡ number_of (entry_of rows k).1 = number ∙ ap (λ (e : Entry). number_of e.1) there in
      let key_there : key ≡ (entry_of rows k).0 = key_is ∙ ap (λ (e : Entry). e.0) there in
      subst (λ (due : Due). Contains new due) (λ i. (number_there i, key_there i)) (has_pushed old new (at, key) moved)
]

-- a deadline was set unless there was one, and is listed in any case
pub listed_reserved : (old new : Table) (key : List ℕ) (at : ℕ) (listed : List Due) → SetsDeadline old new key (first_of (deadline_of old key) (Some at))
    → Contains listed (at, key) → AreListed old listed → AreListed new listed
listed_reserved old new key at listed sets has are = by_held (deadline_of old key) refl sets
  where
    by_held : (held : Option ℕ) → deadline_of old key ≡ held → SetsDeadline old new key (first_of held (Some at)) → AreListed new listed
    by_held None is sets = listed_set old new key at listed sets has are
    by_held (Some before) is sets =
        let row = has_row (map.get old key) before is in
        listed_set old new key before listed sets (subst (λ (n : ℕ). Contains {X = Due} listed (n, key)) row.1.1 (are key row.0 row.1.0)) are

-- and there is room for it
pub room_reserved : (old : Table) (schedule : Schedule) (key : List ℕ) (at : ℕ) → SetsDeadline old schedule.times key (first_of (deadline_of old key) (Some at))
    → Contains schedule.listed (at, key) → HasRoom schedule key at
room_reserved old schedule key at sets has = by_held (deadline_of old key) sets.here
  where
    by_held : (held : Option ℕ) → deadline_of schedule.times key ≡ first_of held (Some at) → HasRoom schedule key at
    by_held None is = room_for schedule key at at is has
    by_held (Some before) is = room_for schedule key at before is has
