-- Rows as a list of entries with a mark for each.
use Rattle.std.specs.Prelude.{ℕ, List, [], ◌∷◌, Option, Some, None, map, option_map}
use Rattle.bins.specs.Table.{Entry}
use Rattle.noted_bins.specs.declared.mark.Mark.{Mark}
use Rattle.noted_bins.specs.declared.mark.Mark.TheVariants.{Gone, Lasting, Until}
use Rattle.noted_bins.specs.declared.mark.SavedEntry.{SavedEntry}
use Rattle.noted_bins.specs.Rows.{Row, Saved}

-- the mark of an entry with this deadline, or none
abbrev pub mark_of : Option ℕ → Mark
mark_of None = Lasting
mark_of (Some at) = Until at

abbrev pub saved_as : Mark → List ℕ → Saved
saved_as Gone value = None
saved_as Lasting value = Some (value, None)
saved_as (Until at) value = Some (value, Some at)

abbrev pub saved_in : Option SavedEntry → Saved
saved_in entry = option_map (λ (e : SavedEntry). (e.value.now, e.deadline)) entry

abbrev pub rows_in : List Mark → List Entry → List Row
rows_in [] entries = []
rows_in (mark ∷ marks) [] = []
rows_in (mark ∷ marks) (entry ∷ entries) = (entry.0, saved_as mark entry.1) ∷ rows_in marks entries

-- the marks of entries whose keys have these deadlines
abbrev pub marks_of : (List ℕ → Option ℕ) → List Entry → List Mark
marks_of deadline entries = map (λ (entry : Entry). mark_of (deadline entry.0)) entries
