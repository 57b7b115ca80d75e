-- Entries in an order, read from one list or from several.
use Rattle.std.specs.Prelude.{List, [], map, slice_index_or}
use Rattle.bins.specs.Table.{Entry}
use Rattle.bins.specs.Entries.{entry_of}
use Rattle.bins.specs.declared.merged_entries.EntryPosition.{EntryPosition}
use Rattle.bins.specs.declared.merged_entries.Source.{Source}
use Rattle.bins.specs.declared.merged_entries.Source.TheVariants.{One, Several}

-- the entry at a position of several lists; no bytes after the last one
abbrev pub entry_at : List (List Entry) → EntryPosition → Entry
entry_at lists at = entry_of (slice_index_or lists at.list []) at.position

-- the entries of one list as they stand, or the entries at positions of several lists in turn
abbrev pub merged_from : Source → List Entry
merged_from (One list) = list
merged_from (Several lists positions) = map (entry_at lists.items) positions.items
