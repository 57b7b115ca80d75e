use Rattle.std.proofs.Common.{◌≡◌, ◌≢◌, ◌<◌, ◌≤◌, ℕ, List, get_or, length}
use Rattle.bins.specs.Entries.{entry_of}
use Rattle.bins.specs.Fronts.{AreBytes}
use Rattle.bins.specs.Table.{Entry}
use Rattle.bulk_walks.specs.Merges.{lead_of, lefts_of}
use Rattle.bulk_walks.proofs.rests.least_lead.Given as goal

-- among the leads so far, the least one and one that is not greater than the others
abbrev pub invariant-loop-other : goal.invariant-loop-other
invariant-loop-other l = record {
  inside : l.position < length l.rests;
  least : (d : List Entry) → l.least ≡ lead_of (get_or (lefts_of l.rests) l.position d);
  bytes : (k : ℕ) (d : List Entry) → k < l.other → AreBytes (entry_of (get_or (lefts_of l.rests) k d) 0).0;
  order : l.least ≤ l.second;
  second : (k : ℕ) (d : List Entry) → k < l.other → k ≢ l.position → l.second ≤ lead_of (get_or (lefts_of l.rests) k d);
}
