use Rattle.std.proofs.Common.{sym, ◌∙◌}
use Rattle.bins.proofs.EntryCounts.{weighed_in_table}
use Rattle.bins.proofs.SortedCopies.{sorted_copies}
use Rattle.atomic_methods.proofs.WholeLemmas.{Distinct-stripes}
use Rattle.atomic_methods.proofs.striped.sorted_entries.Goals as goal

-- the entries of all stripes, sorted by key, are those of the table
pub returns : goal.returns
returns c = record { ok = sorted_copies _ c.in_ok-found.found c.in_ok-sorted.sorted (λ weight. c.in_ok-found.ensures.ok weight ∙ sym (weighed_in_table weight _ (Distinct-stripes _ c.requires))) c.in_ok-sorted.ensures.moved c.in_ok-sorted.ensures.order }
