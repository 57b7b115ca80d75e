-- The first bytes of a string as a number.
use Rattle.std.specs.Prelude.{ℕ, zero, suc, ◌+◌, ◌*◌, ◌<◌, List, slice_index_or}

-- the first n bytes; the first one weighs most, and zeros stand for those that are missing
abbrev pub front : ℕ → List ℕ → ℕ
front zero bytes = 0
front (suc n) bytes = front n bytes * 256 + slice_index_or bytes n 0

-- each is a byte
abbrev pub AreBytes : List ℕ → Type 0
AreBytes bytes = (i : ℕ) → slice_index_or bytes i 0 < 256
