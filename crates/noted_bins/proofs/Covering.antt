-- What was saved stays what is there of each key that is not noted: a change keeps that, and rows that are put keep it too.
use Rattle.std.proofs.Common.{◌≡◌, ℕ, Bool, true, false, cond, List, [], ◌∷◌, Option, Some, None, refl, sym, ap, ◌∙◌, ◌⊎◌, inl, inr}
use Rattle.std.specs.Prelude.{option_map, if◌then◌else◌}
use Rattle.std.specs.List.{All}
use Rattle.std.specs.FinMap as map
use Rattle.std.specs.FinMap.{get-empty, same_map}
use Rattle.std.proofs.lemmas.List.Elements.{All-head, All-tail}
use Rattle.bins.specs.Table.{Table, by_bytes}
use Rattle.bins.proofs.DistinctEntries.{alike}
use Rattle.bins.proofs.MapEdits.{total, antisymmetric}
use Rattle.atomic_methods.specs.Methods.{with_value}
use Rattle.timed_bins.specs.Deadlines.{TimedTable}
use Rattle.noted_bins.specs.declared.taken.Taken.{Taken}
use Rattle.noted_bins.specs.declared.taken.Taken.TheVariants.{All as AllTaken, Begun, Some as SomeTaken, Rest}
use Rattle.noted_bins.specs.Notes.{Covers, CoversValues, IsKnown, NotesChanges, TakesChanges, is_anew}
use Rattle.noted_bins.specs.Rows.{Row, Saved, has_row, put_rows, put_saved, row_of, same_key, value_in, values_of}
use Rattle.noted_bins.proofs.KeyLemmas.{same_or_not}
use Rattle.noted_bins.proofs.TableLemmas.{beside, here}

-- the value of a row is the value that is there
value_there : (table : TimedTable) (key : List ℕ) → value_in (row_of table key) ≡ map.get table.table key
value_there table key = by_value (map.get table.table key)
  where
    by_value : (value : Option (List ℕ)) → value_in (option_map (λ (v : List ℕ). (v, table.deadline key)) value) ≡ value
    by_value None = refl
    by_value (Some v) = refl

-- a change keeps what was saved
pub covers_still : (noted noted' : List ℕ → Bool) (old new : TimedTable) (saved : List ℕ → Saved) → NotesChanges noted old noted' new
    → Covers noted old saved → Covers noted' new saved
covers_still noted noted' old new saved changes covers key e = let known = changes key e in covers key known.0 ∙ sym known.1

pub values_still : (noted noted' : List ℕ → Bool) (old new : TimedTable) (kept : Table) → NotesChanges noted old noted' new
    → CoversValues noted old.table kept → CoversValues noted' new.table kept
values_still noted noted' old new kept changes covers key e =
    let known = changes key e in
    covers key known.0 ∙ sym (value_there old key) ∙ ap value_in (sym known.1) ∙ value_there new key

module _ (table : TimedTable) where
  abbrev Present : Row → Type 0
  Present row = row.1 ≡ row_of table row.0

  -- a key has what is there of it after rows of what is there, if one is its own or it had that before
  put_there : (rows : List Row) (kept : Table) (key : List ℕ) → All Present rows → (has_row rows key ≡ true) ⊎ (map.get kept key ≡ map.get table.table key)
      → map.get (put_rows kept (values_of rows)) key ≡ map.get table.table key
  put_there [] kept key present (inl has) = absurd cc
  put_there [] kept key present (inr same) = same
  put_there (row ∷ rows) kept key present why =
      put_there rows (with_value kept row.0 (value_in row.1)) key (All-tail Present row rows present) (after why)
    where
      value : value_in row.1 ≡ map.get table.table row.0
      value = ap value_in (All-head Present row rows present) ∙ value_there table row.0

      at_row : key ≡ row.0 → map.get (with_value kept row.0 (value_in row.1)) key ≡ map.get table.table key
      at_row same = ap (map.get (with_value kept row.0 (value_in row.1))) same ∙ here kept row.0 (value_in row.1) ∙ value ∙ ap (map.get table.table) (sym same)

      by_test : (b : Bool) → same_key key row.0 ≡ b → cond b true (has_row rows key) ≡ true
          → (has_row rows key ≡ true) ⊎ (map.get (with_value kept row.0 (value_in row.1)) key ≡ map.get table.table key)
      by_test true is e = inr (at_row (alike key row.0 is))
      by_test false is e = inl e

      after : (has_row (row ∷ rows) key ≡ true) ⊎ (map.get kept key ≡ map.get table.table key)
          → (has_row rows key ≡ true) ⊎ (map.get (with_value kept row.0 (value_in row.1)) key ≡ map.get table.table key)
      after (inl has) = by_test (same_key key row.0) refl has
      after (inr same) = elim (same_or_not key row.0) [
        | inl is ↦ inr (at_row is)
        | inr apart ↦ inr (beside kept row.0 (value_in row.1) key apart ∙ same)
      ]

-- what was saved before rows were put: nothing if all is taken anew
abbrev pub kept_before : Taken → Table → Table
kept_before taken kept = if is_anew taken then map.empty else kept

known_value : (taken : Taken) (noted : List ℕ → Bool) (table : TimedTable) (kept : Table) (key : List ℕ) → CoversValues noted table.table kept
    → IsKnown taken noted table key → map.get (kept_before taken kept) key ≡ map.get table.table key
known_value AllTaken noted table kept key covers known = get-empty by_bytes key ∙ sym known
known_value Begun noted table kept key covers known = get-empty by_bytes key ∙ sym known
known_value SomeTaken noted table kept key covers known = covers key known
known_value Rest noted table kept key covers known = covers key known

-- the rows that were handed out keep what was saved
pub values_taken : (taken : Taken) (noted noted' : List ℕ → Bool) (old new : TimedTable) (rows : List Row) (kept : Table) → TakesChanges noted old taken rows noted' new
    → CoversValues noted old.table kept → CoversValues noted' new.table (put_rows (kept_before taken kept) (values_of rows))
values_taken taken noted noted' old new rows kept takes covers key e =
    put_there old rows (kept_before taken kept) key takes.present (by_reason (takes.known key e)) ∙ ap (λ (t : TimedTable). map.get t.table key) (sym takes.same)
  where
    by_reason : (has_row rows key ≡ true) ⊎ IsKnown taken noted old key → (has_row rows key ≡ true) ⊎ (map.get (kept_before taken kept) key ≡ map.get old.table key)
    by_reason (inl has) = inl has
    by_reason (inr known) = inr (known_value taken noted old kept key covers known)

-- if no key is noted, what was saved is what is there
pub all_saved : (noted : List ℕ → Bool) (table kept : Table) → ((key : List ℕ) → noted key ≡ false) → CoversValues noted table kept → kept ≡ table
all_saved noted table kept none covers = same_map total antisymmetric kept table (λ key. covers key (none key))

-- the same with deadlines: a key has what is there of it after rows of what is there
saved_there : (table : TimedTable) (rows : List Row) (saved : List ℕ → Saved) (key : List ℕ) → All (λ (row : Row). row.1 ≡ row_of table row.0) rows
    → (has_row rows key ≡ true) ⊎ (saved key ≡ row_of table key) → put_saved saved rows key ≡ row_of table key
saved_there table [] saved key present (inl has) = absurd cc
saved_there table [] saved key present (inr same) = same
saved_there table (row ∷ rows) saved key present why =
    saved_there table rows (λ (k : List ℕ). cond (same_key k row.0) row.1 (saved k)) key (All-tail (λ (r : Row). r.1 ≡ row_of table r.0) row rows present)
    (by_test (same_key key row.0) refl why)
  where
    by_test : (b : Bool) → same_key key row.0 ≡ b → (cond b true (has_row rows key) ≡ true) ⊎ (saved key ≡ row_of table key)
        → (has_row rows key ≡ true) ⊎ (cond b row.1 (saved key) ≡ row_of table key)
    by_test true is e = inr (All-head (λ (r : Row). r.1 ≡ row_of table r.0) row rows present ∙ ap (row_of table) (sym (alike key row.0 is)))
    by_test false is (inl e) = inl e
    by_test false is (inr e) = inr e

abbrev pub saved_before : Taken → (List ℕ → Saved) → List ℕ → Saved
saved_before taken saved key = if is_anew taken then None else saved key

none_there : (table : TimedTable) (key : List ℕ) → map.get table.table key ≡ None → row_of table key ≡ None
none_there table key none = rw none refl

known_saved : (taken : Taken) (noted : List ℕ → Bool) (table : TimedTable) (saved : List ℕ → Saved) (key : List ℕ) → Covers noted table saved
    → IsKnown taken noted table key → saved_before taken saved key ≡ row_of table key
known_saved AllTaken noted table saved key covers known = sym (none_there table key known)
known_saved Begun noted table saved key covers known = sym (none_there table key known)
known_saved SomeTaken noted table saved key covers known = covers key known
known_saved Rest noted table saved key covers known = covers key known

pub covers_taken : (taken : Taken) (noted noted' : List ℕ → Bool) (old new : TimedTable) (rows : List Row) (saved : List ℕ → Saved) → TakesChanges noted old taken rows noted' new
    → Covers noted old saved → Covers noted' new (put_saved (saved_before taken saved) rows)
covers_taken taken noted noted' old new rows saved takes covers key e =
    saved_there old rows (saved_before taken saved) key takes.present (by_reason (takes.known key e)) ∙ ap (λ (t : TimedTable). row_of t key) (sym takes.same)
  where
    by_reason : (has_row rows key ≡ true) ⊎ IsKnown taken noted old key → (has_row rows key ≡ true) ⊎ (saved_before taken saved key ≡ row_of old key)
    by_reason (inl has) = inl has
    by_reason (inr known) = inr (known_saved taken noted old saved key covers known)
