-- The ways to find the positions of keys in a list.
use Rattle.std.specs.Prelude.{◌≡◌, ℕ, List, map}
use Rattle.bins.specs.declared.hashed_bins.Finder.{Finder}
use Rattle.bins.specs.declared.hashed_bins.Finder.TheVariants.{Hashes, Keys}
use Rattle.bins.specs.Mixed.{mixed}
use Rattle.bins.specs.Trees.{Locates}

-- the index has the hash of each key by its seed, in their order, or the tree has the position of each
abbrev pub Finds : Finder → List (List ℕ) → Type 0
Finds (Hashes index) keys = index.hashes ≡ map (mixed index.seed) keys
Finds (Keys tree) keys = Locates tree.positions keys
