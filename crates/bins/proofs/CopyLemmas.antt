-- Entries that a list keeps are those of a table, both in an unsorted list and in a sorted one.
use Rattle.std.proofs.Common.{◌≡◌, List, T, length, sum_by, sym, ap, ◌∙◌}
use Rattle.std.specs.FinMap as map
use Rattle.std.specs.FinMap.{len-entries, entries-from_sorted}
use Rattle.bins.specs.Table.{Entry, Table, by_bytes}
use Rattle.bins.specs.Copies.{AreCopies}
use Rattle.bins.specs.Entries.{Distinct}
use Rattle.bins.proofs.DistinctEntries.{table_of}
use Rattle.bins.proofs.EntryCounts.{weighed_in_table, len-table}

-- entries whose keys differ
module _ (entries : List Entry) (distinct : Distinct entries) (table : Table) (is : table_of entries ≡ table) where
  pub distinct_copies : (copies : List Entry) → copies ≡ entries → AreCopies table copies
  distinct_copies copies same = λ weight. ap (λ (es : List Entry). sum_by weight es) same ∙ sym (weighed_in_table weight entries distinct) ∙ ap (λ (t : Table). sum_by weight (map.entries t)) is

  pub distinct_many : length entries ≡ length (map.entries table)
  distinct_many = sym (len-table entries distinct) ∙ len-entries (table_of entries) ∙ ap (λ (t : Table). length (map.entries t)) is

-- entries whose keys rise
module _ (entries : List Entry) (sorted : T (map.is_sorted by_bytes entries)) (table : Table) (is : map.from_sorted entries ≡ table) where
  same : entries ≡ map.entries table
  same = sym (entries-from_sorted by_bytes entries sorted) ∙ ap (λ (t : Table). map.entries t) is

  pub sorted_copies : (copies : List Entry) → copies ≡ entries → AreCopies table copies
  sorted_copies copies are = λ weight. ap (λ (es : List Entry). sum_by weight es) (are ∙ same)

  pub sorted_many : length entries ≡ length (map.entries table)
  sorted_many = ap (λ (es : List Entry). length es) same
