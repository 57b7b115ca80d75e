-- Filters of keys.
use Rattle.std.specs.Prelude.{ℕ, ◌*◌, ◌/◌, ◌%◌, Bool, false, List, length, slice_index_or}
use Rattle.bins.specs.Hashes.{hash}

-- the slot of a hash among this many
abbrev pub slot_in : ℕ → ℕ → ℕ
slot_in slots hash = (hash * 2654435761 / 1048576) % slots

-- a key's slot in a filter
abbrev pub slot_of : List Bool → List ℕ → ℕ
slot_of filter key = slot_in (length filter) (hash key)

-- if the filter has a key, or another one with its slot
abbrev pub may_have : List Bool → List ℕ → Bool
may_have filter key = slice_index_or filter (slot_of filter key) false
