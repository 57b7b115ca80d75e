-- Entries in a list, in any order.
use Rattle.std.specs.Prelude.{◌≡◌, ℕ, List, [], ◌∷◌, None, ⊤, map, slice_index_or}
use Rattle.std.specs.List.{zip}
use Rattle.std.specs.FinMap.{find}
use Rattle.bins.specs.Table.{Entry, by_bytes}

-- the entries whose keys stand in one list and whose values stand at the same positions of another
abbrev pub entries_in : List (List ℕ) → List (List ℕ) → List Entry
entries_in keys values = zip keys values

-- the entry at a position of a list; no bytes after the last one
abbrev pub entry_of : List Entry → ℕ → Entry
entry_of entries p = slice_index_or entries p ([], [])

-- the entries at these positions
abbrev pub entries_at : List Entry → List ℕ → List Entry
entries_at entries positions = map (entry_of entries) positions

-- no key stands twice
abbrev pub Distinct : List Entry → Type 0
Distinct [] = ⊤
Distinct (entry ∷ entries) = (find by_bytes entry.0 entries ≡ None) × Distinct entries
