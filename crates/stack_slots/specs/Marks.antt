-- Marks: one bit per place, 64 to a word, the lowest first. This verifier's own.
use Rattle.std.specs.Prelude.{ℕ, ◌/◌, ◌%◌, Bool, List, nat_eq, slice_index}
use Rattle.std.specs.Int.{bit_at}

-- whether the place is marked; past the last word none is
unfoldable pub is_marked : List ℕ → ℕ → Bool
is_marked words i = nat_eq (bit_at (slice_index words (i / 64)) (i % 64)) 1
