-- Where the words of the stripes are. Each stripe has sixteen words and uses the first, because processors fetch two
-- neighbouring lines of 64 bytes together: no such pair has two used words.
use Rattle.std.specs.Prelude.{ℕ, ◌*◌}

-- the number of words for this many stripes
abbrev pub words_of : ℕ → ℕ
words_of stripes = stripes * 16

-- where the word of the stripe k is
abbrev pub word_at : ℕ → ℕ
word_at k = k * 16
