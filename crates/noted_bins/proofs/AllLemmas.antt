-- Rows of copies of all entries: each is what is there of its key, and each key with an entry has one.
use Rattle.std.proofs.Common.{◌≡◌, ℕ, zero, suc, ◌+◌, ◌<◌, ◌≤◌, Bool, true, false, cond, List, [], ◌∷◌, ◌++◌, length, drop, get_or, sum_by, length-append, Option, Some, None, refl, sym, ap, ◌∙◌, ◌⊎◌, inl, inr, arith}
use Rattle.std.specs.List.{All}
use Rattle.std.specs.FinMap as map
use Rattle.std.specs.FinMap.{find, get-entries, entries_sorted}
use Rattle.std.proofs.Math.Seq.{drop-append_seam}
use Rattle.std.proofs.lemmas.Bool.{cases_lt}
use Rattle.std.proofs.lemmas.List.Elements.{All-nil, All-cons}
use Rattle.std.proofs.lemmas.List.Sums.{sum_by-cons, get_or-le-sum_by}
use Rattle.bins.specs.Copies.{AddsCopies, AreCopies}
use Rattle.bins.specs.Entries.{entry_of}
use Rattle.bins.specs.Table.{Entry, Table, by_bytes}
use Rattle.bins.proofs.DistinctEntries.{alike, same_itself, find_here}
use Rattle.bins.proofs.EntryCounts.{Distinct-sorted}
use Rattle.timed_bins.specs.Deadlines.{TimedTable}
use Rattle.noted_bins.specs.declared.mark.Mark.{Mark}
use Rattle.noted_bins.specs.Marks.{marks_of, rows_in}
use Rattle.noted_bins.specs.Rows.{Row, has_row, row_of, same_key}
use Rattle.noted_bins.specs.Taking.{HandsOutAll}
use Rattle.noted_bins.proofs.MarkLemmas.{present, rows_more}

-- 1 at the entry of this key and value
abbrev one_at : List ℕ → List ℕ → Entry → ℕ
one_at key value entry = cond (same_key entry.0 key) (cond (same_key entry.1 value) 1 0) 0

one_there : (entry : Entry) → one_at entry.0 entry.1 entry ≡ 1
one_there entry = rw (same_itself entry.0, same_itself entry.1) refl

both_true : (a b : Bool) → 0 < cond a (cond b 1 0) 0 → (a ≡ true) × (b ≡ true)
both_true true true lt = (refl, refl)
both_true true false lt = absurd (omega (arith, lt))
both_true false b lt = absurd (omega (arith, lt))

is_it : (key value : List ℕ) (entry : Entry) → 0 < one_at key value entry → (entry.0 ≡ key) × (entry.1 ≡ value)
is_it key value entry lt =
    let tests = both_true (same_key entry.0 key) (same_key entry.1 value) lt in
    (alike entry.0 key tests.0, alike entry.1 value tests.1)

-- a list that weighs something has an entry that does
weighs : (weight : Entry → ℕ) (entries : List Entry) → 0 < sum_by weight entries → (k : ℕ) × ((k < length entries) × (0 < weight (entry_of entries k)))
weighs weight [] lt = absurd (omega (arith, lt))
weighs weight (entry ∷ entries) lt =
    let sum = sum_by-cons weight entry entries in
    elim (cases_lt 0 (weight entry)) [
      | inl here ↦ (0, (omega arith, here))
      | inr none ↦
          let rest = weighs weight entries (omega (arith, lt, sum, none)) in
          (suc rest.0, (omega (arith, rest.1.0), rest.1.1))
    ]

-- an entry that one of two lists has, the other has too, if they weigh the same
pub moved : (one other : List Entry) → ((weight : Entry → ℕ) → sum_by weight one ≡ sum_by weight other) → (k : ℕ) → k < length one
    → (j : ℕ) × ((j < length other) × ((entry_of other j).0 ≡ (entry_of one k).0) × ((entry_of other j).1 ≡ (entry_of one k).1))
moved one other same k lt =
    let entry : Entry = entry_of one k in
    let weight : Entry → ℕ = one_at entry.0 entry.1 in
    let here : weight entry ≤ sum_by weight one = get_or-le-sum_by weight one k ([], []) lt in
    let is : weight entry ≡ 1 = one_there entry in
    let both = same weight in
    let place = weighs weight other (omega (arith, here, is, both)) in
    let found = is_it entry.0 entry.1 (entry_of other place.0) place.1.1 in
    (place.0, (place.1.0, found.0, found.1))

-- the entry at a position of a table's entries
at_entry : (table : Table) (j : ℕ) → j < length (map.entries table) → map.get table (entry_of (map.entries table) j).0 ≡ Some (entry_of (map.entries table) j).1
at_entry table j lt =
    get-entries table _ ∙ find_here (map.entries table) j (entry_of (map.entries table) j).0 ([], []) (Distinct-sorted _ (entries_sorted table)) lt (same_at (map.entries table) j lt)
  where
    same_at : (es : List Entry) (j : ℕ) → j < length es → (d : Entry) → (get_or es j d).0 ≡ (entry_of es j).0
    same_at [] j lt d = absurd (omega (arith, lt))
    same_at (e ∷ es) zero lt d = refl
    same_at (e ∷ es) (suc j) lt d = same_at es j (omega (arith, lt)) d

module _ (table : Table) (copies : List Entry) (are : AreCopies table copies) where
  -- each copy is an entry
  pub copied : (k : ℕ) → k < length copies → map.get table (entry_of copies k).0 ≡ Some (entry_of copies k).1
  copied k lt =
      let place = moved copies (map.entries table) are k lt in
      let there = at_entry table place.0 place.1.0 in
      ap (map.get table) (sym place.1.1) ∙ there ∙ ap (λ (v : List ℕ). Some v) place.1.2

-- the place of an entry that is found
pub found_at : (key value : List ℕ) (entries : List Entry) → find by_bytes key entries ≡ Some value → (j : ℕ) × ((j < length entries) × ((entry_of entries j).0 ≡ key))
found_at key value [] e = absurd cc
found_at key value (entry ∷ entries) e = by_test (same_key key entry.0) refl (found_at key value entries) e
  where
    by_test : (b : Bool) → same_key key entry.0 ≡ b
        → (find by_bytes key entries ≡ Some value → (j : ℕ) × ((j < length entries) × ((entry_of entries j).0 ≡ key)))
        → cond b (Some entry.1) (find by_bytes key entries) ≡ Some value
        → (j : ℕ) × ((j < length (entry ∷ entries)) × ((entry_of (entry ∷ entries) j).0 ≡ key))
    by_test true is more e = (0, (omega arith, sym (alike key entry.0 is)))
    by_test false is more e = let rest = more e in (suc rest.0, (omega (arith, rest.1.0), rest.1.1))

-- each row is what is there of its key
rows_present : (table : TimedTable) (es : List Entry) → ((k : ℕ) → k < length es → map.get table.table (entry_of es k).0 ≡ Some (entry_of es k).1)
    → All (λ (row : Row). row.1 ≡ row_of table row.0) (rows_in (marks_of table.deadline es) es)
rows_present table [] each = All-nil (λ (row : Row). row.1 ≡ row_of table row.0)
rows_present table (e ∷ es) each =
    All-cons (λ (row : Row). row.1 ≡ row_of table row.0) _ _ (present table e.0 e.1 (each 0 (omega arith))) (rows_present table es (λ k lt. each (suc k) (omega (arith, lt))))

-- the key at a position has a row
has_row_at : (deadline : List ℕ → Option ℕ) (es : List Entry) (j : ℕ) (key : List ℕ) → j < length es → (entry_of es j).0 ≡ key
    → has_row (rows_in (marks_of deadline es) es) key ≡ true
has_row_at deadline [] j key lt e = absurd (omega (arith, lt))
has_row_at deadline (x ∷ es) zero key lt e = let same : same_key key x.0 ≡ true = ap (same_key key) e ∙ same_itself key in rw same refl
has_row_at deadline (x ∷ es) (suc j) key lt e = by_test (same_key key x.0) (has_row_at deadline es j key (omega (arith, lt)) e)
  where
    by_test : (b : Bool) → has_row (rows_in (marks_of deadline es) es) key ≡ true → cond b true (has_row (rows_in (marks_of deadline es) es) key) ≡ true
    by_test true rest = refl
    by_test false rest = rest

-- rows of all entries were added
pub all_added : (table : TimedTable) (old_marks new_marks : List Mark) (old new : List Entry) → length old_marks ≡ length old → AddsCopies table.table old new
    → new_marks ≡ old_marks ++ marks_of table.deadline (drop (length old) new) → HandsOutAll table (rows_in old_marks old) (rows_in new_marks new)
all_added table old_marks new_marks old new paired copies marks =
    let left : drop (length old) new ≡ copies.copies = ap (drop (length old)) copies.added ∙ drop-append_seam old copies.copies in
    let marked : new_marks ≡ old_marks ++ marks_of table.deadline copies.copies = marks ∙ ap (λ (es : List Entry). old_marks ++ marks_of table.deadline es) left in
    record {
      rows = rows_in (marks_of table.deadline copies.copies) copies.copies;
      added = ap (λ (ms : List Mark). rows_in ms new) marked ∙ ap (rows_in (old_marks ++ marks_of table.deadline copies.copies)) copies.added
          ∙ rows_more old_marks old (marks_of table.deadline copies.copies) copies.copies paired;
      present = rows_present table copies.copies (copied table.table copies.copies copies.are);
      known = known;
    }
  where
    known : (key : List ℕ) → (has_row (rows_in (marks_of table.deadline copies.copies) copies.copies) key ≡ true) ⊎ (map.get table.table key ≡ None)
    known key = by_entry (map.get table.table key) refl
      where
        by_entry : (entry : Option (List ℕ)) → map.get table.table key ≡ entry
            → (has_row (rows_in (marks_of table.deadline copies.copies) copies.copies) key ≡ true) ⊎ (map.get table.table key ≡ None)
        by_entry None is = inr is
        by_entry (Some value) is =
            let found = found_at key value (map.entries table.table) (sym (get-entries table.table key) ∙ is) in
            let place = moved (map.entries table.table) copies.copies (λ weight. sym (copies.are weight)) found.0 found.1.0 in
            inl (has_row_at table.deadline copies.copies place.0 key place.1.0 (place.1.1 ∙ found.1.1))

sum_ones : (es : List Entry) → sum_by (λ _. 1) es ≡ length es
sum_ones [] = refl
sum_ones (e ∷ es) = let sum = sum_by-cons (λ _. 1) e es in let rest = sum_ones es in omega (arith, sum, rest)

-- as many copies were added as there are entries
pub as_many : (table : Table) (old new : List Entry) → AddsCopies table old new → length new ≡ length old + length (map.entries table)
as_many table old new copies =
    let weights = copies.are (λ _. 1) in
    let one = sum_ones copies.copies in
    let other = sum_ones (map.entries table) in
    let added = ap length copies.added in
    let parts = length-append old copies.copies in
    omega (arith, weights, one, other, added, parts)
