-- The stripe of a key, by its hash. Our profile limits the number of stripes.
use Rattle.std.specs.Prelude.{ℕ, ◌%◌, ◌≤◌, List}
use Rattle.std.specs.Int.{IsPowerOfTwo}
use Rattle.bins.specs.Hashes.{hash}
use Rattle.atomic_methods.specs.declared.call.TheConstants.{MAX_STRIPES}

-- the stripe of a key, in a table of this many stripes
abbrev pub stripe_of : ℕ → List ℕ → ℕ
stripe_of stripes key = hash key % stripes

-- a table may have this many stripes
abbrev pub IsStripeCount : ℕ → Type 0
IsStripeCount stripes = IsPowerOfTwo stripes × (stripes ≤ MAX_STRIPES)
