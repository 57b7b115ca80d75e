-- The order in which a walk comes to keys: by stripe, and in a stripe by a hash of the key. The hash is FNV-1a with 32 bits.
use Rattle.std.specs.Prelude.{ℕ, ◌+◌, ◌*◌, ◌%◌, ◌^◌, Bool, leb, ltb, ◌&&◌, if◌then◌else◌, List, fold, bit_xor}

-- the hash so far, and one byte more
abbrev pub fnv_more : ℕ → ℕ → ℕ
fnv_more h byte = (bit_xor h byte * 16777619) % 2 ^ 32

-- from the basis, with each byte in turn
unfoldable pub fnv : List ℕ → ℕ
fnv key = fold fnv_more 2166136261 key

-- the first place of the stripe k
abbrev pub start_of : ℕ → ℕ
start_of k = k * 2 ^ 32

-- the place of a key in the stripe k
abbrev pub place_of : ℕ → List ℕ → ℕ
place_of k key = start_of k + fnv key

-- whether a key of the stripe k stands at one place or after it, and before the other
abbrev pub stands_in : ℕ → ℕ → ℕ → List ℕ → Bool
stands_in k from until key = leb from (place_of k key) && ltb (place_of k key) until

-- the cursor of a place, in a map of this many stripes: 0 if the walk is over
abbrev pub cursor_of : ℕ → ℕ → ℕ
cursor_of stripes place = if ltb place (start_of stripes) then place else 0
