use Rattle.std.proofs.Common.{sym, ap, ◌∙◌, length}
use Rattle.std.specs.FinMap as map
use Rattle.std.specs.FinMap.{len-entries}
use Rattle.bins.specs.Ranks.{Held, table_in}
use Rattle.bins.specs.Entries.{entries_in}
use Rattle.bins.proofs.DistinctEntries.{table_of}
use Rattle.bins.proofs.EntryCounts.{len-table}
use Rattle.bins.proofs.PairedEntries.{paired-length}
use Rattle.bins.proofs.hashed_bins.HashedBinsBins.count.Goals as goal

-- the table has as many entries as there are keys, since no key stands twice
pub returns-clause-value : goal.returns-clause-value
returns-clause-value c =
    let entries = entries_in c.self.inside.rows.keys c.self.inside.rows.values in
    c.len.ensures.value ∙ sym (paired-length _ _ c.self.invariant.2) ∙ sym (len-table entries c.self.invariant.1) ∙ len-entries (table_of entries)
    ∙ ap (λ (held : Held). length (map.entries (table_in held))) c.self.view_is
