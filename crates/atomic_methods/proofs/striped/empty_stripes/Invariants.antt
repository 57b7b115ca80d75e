use Rattle.std.proofs.Common.{◌≡◌, ℕ, length}
use Rattle.std.specs.FinMap as map
use Rattle.atomic_methods.specs.Whole.{stripe_at}
use Rattle.atomic_methods.proofs.striped.empty_stripes.Given as goal

-- the stripes so far have no entries
abbrev pub invariant-loop : goal.invariant-loop
invariant-loop l = record {
  made : length l.stripes.items ≡ l.counter;
  none : (i : ℕ) → stripe_at l.stripes.items i ≡ map.empty;
}
