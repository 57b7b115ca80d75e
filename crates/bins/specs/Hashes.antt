-- Hashes of keys. Java SE 17: Arrays.hashCode, with bytes read as 0 to 255 and modulo 2^32.
use Rattle.std.specs.Prelude.{ℕ, ◌+◌, ◌*◌, ◌%◌, ◌^◌, List, fold}

-- the hash so far, and one byte more
abbrev pub hash_more : ℕ → ℕ → ℕ
hash_more h byte = (31 * h + byte) % 2 ^ 32

-- from 1, with each byte in turn
unfoldable pub hash : List ℕ → ℕ
hash key = fold hash_more 1 key
