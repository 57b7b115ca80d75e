-- The first bytes of keys, as numbers.
use Rattle.std.specs.Prelude.{ℕ, List, map}
use Rattle.bins.specs.Entries.{entry_of}
use Rattle.bins.specs.Fronts.{front}
use Rattle.bins.specs.Table.{Entry}

-- of the keys at these positions
abbrev pub leads_in : List Entry → List ℕ → List ℕ
leads_in entries positions = map (λ position. front 8 (entry_of entries position).0) positions
