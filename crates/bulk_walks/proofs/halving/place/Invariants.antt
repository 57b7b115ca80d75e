use Rattle.std.proofs.Common.{◌≡◌, List, All, T, map, take}
use Rattle.std.specs.FinMap.{is_sorted}
use Rattle.bins.specs.Merged.{entry_at}
use Rattle.bins.specs.Table.{Entry, by_bytes}
use Rattle.bulk_walks.specs.Merges.{HasAll, lefts_of, lists_of}
use Rattle.bulk_walks.proofs.MergeLemmas.{Left}
use Rattle.bulk_walks.proofs.halving.place.Given as goal

-- the items at the positions so far begin each list in key order that has all items, and the rest of it has the
-- remaining items
abbrev pub invariant-loop-place : goal.invariant-loop-place
invariant-loop-place l = record {
  lists : lists_of l.rests.items ≡ lists_of l.initial.rests.items;
  sorted : All (λ es. T (is_sorted by_bytes es)) (lefts_of l.rests.items);
  left : (whole : List Entry) → T (is_sorted by_bytes whole) → HasAll whole (lefts_of l.initial.rests.items) → Left (map (entry_at (lists_of l.initial.rests.items)) (take l.place l.places)) (lefts_of l.rests.items) whole;
}
