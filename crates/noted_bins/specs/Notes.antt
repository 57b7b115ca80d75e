-- Which keys changed since their rows were handed out, and what a save hands out of them.
use Rattle.std.specs.Prelude.{◌≡◌, ◌≢◌, ℕ, ◌⊎◌, Bool, true, false, cond, List, [], ◌∷◌, None, is_some as is_there}
use Rattle.std.specs.Coded.{Coded, code_by, coded_bool, coded_ℕ, coded_list, coded×}
use Rattle.std.specs.FinMap as finite
use Rattle.std.specs.List.{All}
use Rattle.bins.specs.Table.{Table}
use Rattle.timed_bins.specs.Deadlines.{TimedTable}
use Rattle.noted_bins.specs.Filters.{may_have}
use Rattle.noted_bins.specs.declared.taken.Taken.{Taken}
use Rattle.noted_bins.specs.declared.taken.Taken.TheVariants.{All as AllTaken, Begun, Some as SomeTaken, Rest}
use Rattle.noted_bins.specs.Rows.{Row, Saved, has_row, row_of, same_key}
use mathlib.Core.Path.{refl}

-- a key that is not noted after a change was not noted before, and has the row that it had
abbrev pub NotesChanges : (List ℕ → Bool) → TimedTable → (List ℕ → Bool) → TimedTable → Type 0
NotesChanges noted old noted' new = (key : List ℕ) → noted' key ≡ false → (noted key ≡ false) × (row_of new key ≡ row_of old key)

-- what was saved of each key is what is there, but for the keys that are noted
abbrev pub Covers : (List ℕ → Bool) → TimedTable → (List ℕ → Saved) → Type 0
Covers noted table saved = (key : List ℕ) → noted key ≡ false → saved key ≡ row_of table key

-- the same of the values alone
abbrev pub CoversValues : (List ℕ → Bool) → Table → Table → Type 0
CoversValues noted table kept = (key : List ℕ) → noted key ≡ false → finite.get kept key ≡ finite.get table key

abbrev pub is_all : Taken → Bool
is_all AllTaken = true
is_all Begun = false
is_all SomeTaken = false
is_all Rest = false

-- if rows that were handed out before count no more
abbrev pub is_anew : Taken → Bool
is_anew AllTaken = true
is_anew Begun = true
is_anew SomeTaken = false
is_anew Rest = false

-- if keys may still be noted
abbrev pub is_some : Taken → Bool
is_some AllTaken = false
is_some Begun = true
is_some SomeTaken = true
is_some Rest = false

-- why a key without a row is not noted: if all is taken anew, it has no entry; else it was not noted before
abbrev pub IsKnown : Taken → (List ℕ → Bool) → TimedTable → List ℕ → Type 0
IsKnown AllTaken noted table key = finite.get table.table key ≡ None
IsKnown Begun noted table key = finite.get table.table key ≡ None
IsKnown SomeTaken noted table key = noted key ≡ false
IsKnown Rest noted table key = noted key ≡ false

-- these rows were handed out of a table; nothing changed but which keys are noted
pub record TakesChanges (noted : List ℕ → Bool) (old : TimedTable) (taken : Taken) (rows : List Row)
    (noted' : List ℕ → Bool) (new : TimedTable) : Type 0 where
  pub same : new ≡ old
  -- each row is what is there of its key
  pub present : All (λ (row : Row). row.1 ≡ row_of old row.0) rows
  -- a key that is no longer noted has a row
  pub known : (key : List ℕ) → noted' key ≡ false → (has_row rows key ≡ true) ⊎ IsKnown taken noted old key
  -- if not just some were taken, none is noted
  pub none : is_some taken ≡ false → (key : List ℕ) → noted' key ≡ false

-- the keys that are noted: all, or those in a list, and those with an entry that a filter may have
pub record NotedKeys : Type 0 where
  pub all : Bool
  pub keys : List (List ℕ)
  pub filter : List Bool

abbrev pub noted_code : Coded NotedKeys
noted_code = code_by (Bool × (List (List ℕ) × List Bool)) (coded× coded_bool (coded× (coded_list (coded_list coded_ℕ)) (coded_list coded_bool)))
    (λ n. (n.all, (n.keys, n.filter))) (λ x. record { all = x.0; keys = x.1.0; filter = x.1.1 }) (λ _. refl)

abbrev pub has_key : List (List ℕ) → List ℕ → Bool
has_key [] key = false
has_key (one ∷ keys) key = cond (same_key key one) true (has_key keys key)

-- if a key has an entry
abbrev pub has_entry : Table → List ℕ → Bool
has_entry table key = is_there (finite.get table key)

-- if a key has an entry, and the filter may have it
abbrev pub is_filtered : List Bool → Table → List ℕ → Bool
is_filtered filter table key = cond (may_have filter key) (has_entry table key) false

-- beside a table with these entries
abbrev pub is_noted : NotedKeys → Table → List ℕ → Bool
is_noted notes table key = cond notes.all true (cond (has_key notes.keys key) true (is_filtered notes.filter table key))

-- a key that is noted stays so
abbrev pub KeepsNoted : Table → NotedKeys → NotedKeys → Type 0
KeepsNoted table old new = (key : List ℕ) → is_noted new table key ≡ false → is_noted old table key ≡ false

-- a key was noted; another one is noted if it was, or more are
abbrev pub NotesKey : Table → NotedKeys → List ℕ → NotedKeys → Type 0
NotesKey table old key new = (other : List ℕ) → is_noted new table other ≡ false → (is_noted old table other ≡ false) × (other ≢ key)
