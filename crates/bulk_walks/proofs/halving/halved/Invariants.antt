use Rattle.std.proofs.Common.{◌≡◌, ◌<◌, ℕ, get_or, length}
use Rattle.bulk_walks.specs.Merges.{Remains}
use Rattle.bulk_walks.specs.Halves.{IsParted}
use Rattle.bulk_walks.proofs.halving.halved.Given as goal

-- the items of the workers so far are parted
abbrev pub invariant-loop-rest : goal.invariant-loop-rest
invariant-loop-rest l = record {
  fronts : length l.fronts.items ≡ l.rest-index;
  backs : length l.backs.items ≡ l.rest-index;
  each : (k : ℕ) (d : Remains) → k < l.rest-index → IsParted l.key (get_or l.rests k d) (get_or l.fronts.items k d) (get_or l.backs.items k d);
}
