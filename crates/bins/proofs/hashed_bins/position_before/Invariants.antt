use Rattle.std.proofs.Common.{◌≢◌, ◌≤◌, ℕ, suc, Option, Some, None, length}
use Rattle.std.specs.List.{AllWithin}
use Rattle.bins.specs.Chains.{IsLastOf}
use Rattle.bins.proofs.hashed_bins.position_before.Given as goal

-- no position from `end` on has the key, and the next position is the last of the hash before it
abbrev pub invariant-loop-next : goal.invariant-loop-next
invariant-loop-next l = record {
  end : ℕ;
  bound : end ≤ length l.rows.keys;
  last : IsLastOf l.index.hashes end l.hash l.next;
  behind : AllWithin (λ k. k ≢ l.key) l.rows.keys end (length l.rows.keys);
}

abbrev places_left : Option ℕ → ℕ
places_left None = 0
places_left (Some position) = suc position

abbrev pub decreases-loop-next : goal.decreases-loop-next
decreases-loop-next l = places_left l.next
