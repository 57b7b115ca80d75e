-- Rows of the entries whose keys a filter may have.
use Rattle.std.proofs.Common.{◌≡◌, ℕ, ◌+◌, ◌<◌, ◌≤◌, Bool, true, false, cond, List, [], ◌∷◌, ◌++◌, append-nil, append_assoc, length, length-append, Option, Some, None, refl, sym, ap, subst, ◌∙◌, ◌⊎◌, inl, inr, arith}
use Rattle.std.specs.Prelude.{is_some as is_there}
use Rattle.std.specs.FinMap as map
use Rattle.std.specs.FinMap.{get-entries}
use Rattle.std.proofs.lemmas.Bool.{cases_lt}
use Rattle.std.proofs.lemmas.List.Elements.{All-nil, All-cons, All-append}
use Rattle.bins.specs.Copies.{AreCopies}
use Rattle.bins.specs.Entries.{entry_of}
use Rattle.bins.specs.Ranks.{IsOneOf, is_below, rank_in}
use Rattle.bins.specs.declared.ranks.Ranks.{Ranks}
use Rattle.bins.specs.Table.{Entry}
use Rattle.timed_bins.specs.Deadlines.{TimedTable}
use Rattle.noted_bins.specs.Filters.{may_have}
use Rattle.noted_bins.specs.Marks.{mark_of, saved_as}
use Rattle.noted_bins.specs.Notes.{is_filtered}
use Rattle.noted_bins.specs.Rows.{Row, has_row, row_of}
use Rattle.noted_bins.specs.Tours.{TourKeys, is_ahead}
use Rattle.noted_bins.specs.Taking.{HandsOutAt, HandsOutFiltered, HandsOutPresent, HandsOutAhead}
use Rattle.noted_bins.proofs.AllLemmas.{copied, found_at, moved}
use Rattle.noted_bins.proofs.HandLemmas.{row_before, row_itself}
use Rattle.noted_bins.proofs.MarkLemmas.{present}

-- no row was added yet
pub filtered_none : (table : TimedTable) (old : List Row) → HandsOutPresent table old old
filtered_none table old = record { rows = []; added = sym (append-nil old); present = All-nil (λ (row : Row). row.1 ≡ row_of table row.0) }

before_or_here : (j p : ℕ) → j < p + 1 → (j < p) ⊎ (j ≡ p)
before_or_here j p lt = elim (cases_lt j p) [
  | inl before ↦ inl before
  | inr not ↦ inr (omega (arith, lt, not))
]

both_true : (may : Bool) (value : Option (List ℕ)) → cond may (is_there value) false ≡ true → (may ≡ true) × ((v : List ℕ) × (value ≡ Some v))
both_true true (Some v) e = (refl, (v, refl))
both_true true None e = absurd cc
both_true false value e = absurd cc

-- those of the entries from one position up to another were added that a filter may have
abbrev pub HasFirst : List Bool → List Entry → ℕ → ℕ → List Row → Type 0
HasFirst filter entries from p rows =
    (j : ℕ) → from ≤ j → j < p → may_have filter (entry_of entries j).0 ≡ true → has_row rows (entry_of entries j).0 ≡ true

-- there are none yet
pub first_none : (filter : List Bool) (entries : List Entry) (from : ℕ) (rows : List Row) → HasFirst filter entries from from rows
first_none filter entries from rows j low high may = absurd (omega (arith, low, high))

-- the next one is not to be added
pub first_skipped : (filter : List Bool) (entries : List Entry) (from p : ℕ) (rows : List Row) → HasFirst filter entries from p rows
    → may_have filter (entry_of entries p).0 ≡ false → HasFirst filter entries from (p + 1) rows
first_skipped filter entries from p rows first not j low lt has = elim (before_or_here j p lt) [
  | inl before ↦ first j low before has
  | inr here ↦ absurd (let same = ap (λ (k : ℕ). may_have filter (entry_of entries k).0) here in let both = sym has ∙ same ∙ not in cc)
]

module _ (table : TimedTable) (filter : List Bool) (entries : List Entry) (are : AreCopies table.table entries) (from : ℕ) (old : List Row) where
  -- a row of the next one was added
  pub first_more : (p : ℕ) → p < length entries → (between new : List Row) (key value : List ℕ)
      → ((hands : HandsOutPresent table old between) × HasFirst filter entries from p hands.rows) → ◌≡◌ {A = Entry} (key, value) (entry_of entries p)
      → new ≡ between ++ (key, saved_as (mark_of (table.deadline key)) value) ∷ []
      → (hands : HandsOutPresent table old new) × HasFirst filter entries from (p + 1) hands.rows
  first_more p inside between new key value before here added = (hands, has)
    where
      row : Row
      row = (key, saved_as (mark_of (table.deadline key)) value)

      key_is : key ≡ (entry_of entries p).0
      key_is i = (here i).0

      there : map.get table.table key ≡ Some value
      there = ap (map.get table.table) key_is ∙ copied table.table entries are p inside ∙ sym (ap (λ (entry : Entry). Some entry.1) here)

      hands : HandsOutPresent table old new
      hands = record {
        rows = before.0.rows ++ row ∷ [];
        added = added ∙ ap (λ (rows : List Row). rows ++ row ∷ []) before.0.added ∙ append_assoc old before.0.rows (row ∷ []);
        present = All-append (λ (row : Row). row.1 ≡ row_of table row.0) before.0.rows (row ∷ []) before.0.present
            (All-cons (λ (row : Row). row.1 ≡ row_of table row.0) row [] (present table key value there) (All-nil (λ (row : Row). row.1 ≡ row_of table row.0)));
      }

      has : HasFirst filter entries from (p + 1) (before.0.rows ++ row ∷ [])
      has j low lt may = elim (before_or_here j p lt) [
        | inl first ↦ row_before before.0.rows row (entry_of entries j).0 (before.1 j low first may)
        | inr same ↦ ap (has_row (before.0.rows ++ row ∷ [])) (ap (λ (k : ℕ). (entry_of entries k).0) same ∙ sym key_is) ∙ row_itself before.0.rows row
      ]

  -- all were added that have these ranks
  pub first_all : (order : List (List ℕ)) (ranks positions : Ranks) → positions.from ≡ from
      → ((p : ℕ) → p < length entries → IsOneOf ranks (rank_in order (entry_of entries p).0) → IsOneOf positions p)
      → (end last : ℕ) → ((p : ℕ) → p < length entries → is_below positions.to p ≡ true → p < end) → end ≤ last
      → (new : List Row) → ((hands : HandsOutPresent table old new) × HasFirst filter entries from last hands.rows) → HandsOutAt table order filter ranks old new
  first_all order ranks positions begins there end last below past new first = record { handed = first.0; known = known }
    where
      known : (key : List ℕ) → is_filtered filter table.table key ≡ true → IsOneOf ranks (rank_in order key) → has_row first.0.rows key ≡ true
      known key e among =
          let both = both_true (may_have filter key) (map.get table.table key) e in
          let found = found_at key both.1.0 (map.entries table.table) (sym (get-entries table.table key) ∙ both.1.1) in
          let place = moved (map.entries table.table) entries (λ weight. sym (are weight)) found.0 found.1.0 in
          let here : (entry_of entries place.0).0 ≡ key = place.1.1 ∙ found.1.1 in
          let position = there place.0 place.1.0 (subst (λ (k : List ℕ). IsOneOf ranks (rank_in order k)) (sym here) among) in
          let before : place.0 < end = below place.0 place.1.0 position.1 in
          let low : from ≤ place.0 = omega (arith, begins, position.0) in
          let high : place.0 < last = omega (arith, before, past) in
          ap (has_row first.0.rows) (sym here) ∙ first.1 place.0 low high (ap (may_have filter) here ∙ both.0)

-- all keys were taken out of the filter
pub all_forgotten : (table : TimedTable) (order : List (List ℕ)) (filter filter' : List Bool) (ranks : Ranks) (old new : List Row) → HandsOutAt table order filter ranks old new
    → ranks.from ≡ 0 → ranks.to ≡ None → HandsOutFiltered table filter filter' old new
all_forgotten table order filter filter' ranks old new hands from to = record {
  handed = hands.handed;
  known = λ key e was. hands.known key was (omega (arith, from), ap (λ (end : Option ℕ). is_below end (rank_in order key)) to);
}

-- nothing was taken out
pub kept_all : (table : TimedTable) (filter : List Bool) (old new : List Row) → HandsOutPresent table old new → HandsOutFiltered table filter filter old new
kept_all table filter old new hands = record { handed = hands; known = λ key e was. absurd (let both = sym e ∙ was in cc) }

-- the tour has passed the keys at these ranks, or stays as it is
pub passed : (table : TimedTable) (order : List (List ℕ)) (before after : TourKeys) (ranks : Ranks) (old new : List Row) → HandsOutAt table order before.filter ranks old new
    → ((key : List ℕ) → is_ahead after order table.table key ≡ false → is_ahead before order table.table key ≡ true → IsOneOf ranks (rank_in order key))
    → HandsOutAhead table order before after old new
passed table order before after ranks old new hands left = record { handed = hands.handed; known = known }
  where
    filtered : (below : Bool) (there : Bool) → cond below there false ≡ true → there ≡ true
    filtered true there e = e
    filtered false there e = absurd cc

    known : (key : List ℕ) → is_ahead after order table.table key ≡ false → is_ahead before order table.table key ≡ true → has_row hands.handed.rows key ≡ true
    known key e was = hands.known key (filtered (is_below before.below (rank_in order key)) (is_filtered before.filter table.table key) was) (left key e was)

pub stayed : (table : TimedTable) (order : List (List ℕ)) (tour : TourKeys) (old new : List Row) → HandsOutPresent table old new → HandsOutAhead table order tour tour old new
stayed table order tour old new hands = record { handed = hands; known = λ key e was. absurd (let both = sym e ∙ was in cc) }

-- if there are as many rows as before, none was added
pub none_added : (table : TimedTable) (old new : List Row) → HandsOutPresent table old new → length new ≡ length old → new ≡ old
none_added table old new hands same = by_rows hands.rows hands.added
  where
    by_rows : (rows : List Row) → new ≡ old ++ rows → new ≡ old
    by_rows [] added = added ∙ append-nil old
    by_rows (row ∷ rows) added = absurd (let many = ap length added in let parts = length-append old (row ∷ rows) in omega (arith, same, many, parts))
