use Rattle.std.proofs.Common.{◌≡◌, ◌<◌, ℕ, List, false, get_or, length}
use Rattle.bins.specs.Table.{Entry}
use Rattle.bulk_walks.specs.Merges.{comes_first, lefts_of}
use Rattle.bulk_walks.proofs.rests.least_key.Given as goal

-- no list so far comes before this one
abbrev pub invariant-loop-other : goal.invariant-loop-other
invariant-loop-other l = record {
  inside : l.position < length l.rests;
  least : (i : ℕ) (d : List Entry) → i < l.other → comes_first (get_or (lefts_of l.rests) i d) (get_or (lefts_of l.rests) l.position d) ≡ false;
}
