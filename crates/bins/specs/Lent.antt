-- The entries that are lent.
use Rattle.std.specs.Prelude.{◌≡◌, List, ⊤, length}
use Rattle.bins.specs.declared.lent_entries.Storage.{Storage}
use Rattle.bins.specs.declared.lent_entries.Storage.TheVariants.{Rows, Pairs}
use Rattle.bins.specs.Entries.{entries_in}
use Rattle.bins.specs.Table.{Entry}

-- the entries, in the storage's order
abbrev pub entries_stored : Storage → List Entry
entries_stored (Rows rows) = entries_in rows.now.keys rows.now.values
entries_stored (Pairs pairs) = pairs.now

-- there is a value for each key
abbrev pub ArePaired : Storage → Type 0
ArePaired (Rows rows) = length rows.now.keys ≡ length rows.now.values
ArePaired (Pairs pairs) = ⊤
