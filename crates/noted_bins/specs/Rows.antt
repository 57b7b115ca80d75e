-- Rows of keys, as a save hands them out.
use Rattle.std.specs.Prelude.{ℕ, Bool, true, false, cond, List, [], ◌∷◌, Option, map, option_map}
use Rattle.std.specs.Coded.{Coded, coded_ℕ, coded_list, coded_option, coded×}
use Rattle.std.specs.FinMap as finite
use Rattle.std.specs.Ordering.{eq_by_cmp}
use Rattle.bins.specs.Table.{Table, by_bytes}
use Rattle.atomic_methods.specs.Methods.{with_value}
use Rattle.timed_bins.specs.Deadlines.{TimedTable}

-- if two keys are the same
abbrev pub same_key : List ℕ → List ℕ → Bool
same_key one other = eq_by_cmp by_bytes one other

-- a key's value and its deadline, or none if the key has no entry
abbrev pub Saved : Type 0
Saved = Option (List ℕ × Option ℕ)

-- a key with what was saved of it
abbrev pub Row : Type 0
Row = List ℕ × Saved

abbrev pub rows_code : Coded (List Row)
rows_code = coded_list (coded× (coded_list coded_ℕ) (coded_option (coded× (coded_list coded_ℕ) (coded_option coded_ℕ))))

-- what is there of a key
abbrev pub row_of : TimedTable → List ℕ → Saved
row_of table key = option_map (λ value. (value, table.deadline key)) (finite.get table.table key)

abbrev pub value_in : Saved → Option (List ℕ)
value_in saved = option_map (λ (entry : List ℕ × Option ℕ). entry.0) saved

-- rows without deadlines
abbrev pub values_of : List Row → List (List ℕ × Option (List ℕ))
values_of rows = map (λ (row : Row). (row.0, value_in row.1)) rows

-- the table after these rows; a later row of a key replaces an earlier one
abbrev pub put_rows : Table → List (List ℕ × Option (List ℕ)) → Table
put_rows table [] = table
put_rows table (row ∷ rows) = put_rows (with_value table row.0 row.1) rows

-- what is saved of each key after these rows
abbrev pub put_saved : (List ℕ → Saved) → List Row → List ℕ → Saved
put_saved saved [] = saved
put_saved saved (row ∷ rows) = put_saved (λ key. cond (same_key key row.0) row.1 (saved key)) rows

-- if there is a row of this key
abbrev pub has_row : List Row → List ℕ → Bool
has_row [] key = false
has_row (row ∷ rows) key = cond (same_key key row.0) true (has_row rows key)
