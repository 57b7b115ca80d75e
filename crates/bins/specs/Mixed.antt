-- The hash by which an index spreads keys: each word of a key in turn is joined to the hash so far, which is then
-- multiplied.
use Rattle.std.specs.Prelude.{ℕ, zero, suc, ◌+◌, ◌-◌, ◌*◌, ◌/◌, List, length, min, drop, bit_xor}
use Rattle.std.specs.Hash.FoldHasher.{folded_multiply}
use Rattle.bins.specs.Fronts.{front}
use Rattle.bins.specs.declared.hashes.Seed.{Seed}

-- eight bytes from 8 * n on, or the last eight; zeros stand for those that a shorter key doesn't have
unfoldable pub word_at : List ℕ → ℕ → ℕ
word_at key n = front 8 (drop (min (8 * n) (length key - 8)) key)

-- the hash after the first n words
unfoldable pub after_words : Seed → List ℕ → ℕ → ℕ
after_words seed key zero = bit_xor seed.start (length key)
after_words seed key (suc n) = folded_multiply (bit_xor (after_words seed key n) (word_at key n)) seed.factor

-- the hash after all words
unfoldable pub mixed : Seed → List ℕ → ℕ
mixed seed key = after_words seed key ((length key + 7) / 8)
