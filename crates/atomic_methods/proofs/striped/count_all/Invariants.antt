use Rattle.std.proofs.Common.{◌≡◌, ◌≤◌, ◌*◌, ◌^◌, take, length}
use Rattle.atomic_methods.specs.Whole.{all_entries}
use Rattle.atomic_methods.proofs.striped.count_all.Given as goal

-- the entries of the stripes so far
abbrev pub invariant-loop-stripe : goal.invariant-loop-stripe
invariant-loop-stripe l = record {
  counted : l.sum ≡ length (all_entries (take l.stripe-index l.stripes));
  bounded : l.sum ≤ l.stripe-index * 2 ^ 57;
}
