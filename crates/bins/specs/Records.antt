-- The records of positions in an index, in their order.
use Rattle.std.specs.Prelude.{ℕ, List}

-- the hash of each position, and the next of each in its chain
pub record Recorded : Type 0 where
  pub hashes : List ℕ
  pub nexts : List ℕ
