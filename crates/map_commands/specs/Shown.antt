-- How clap's text is told: the words of the command line that it echoes are cut, and bytes that do not print are spelled.
use Rattle.std.specs.Prelude.{◌≡◌, ℕ, zero, suc, ◌-◌, ◌/◌, ◌%◌, ◌&&◌, List, [], ◌∷◌, ◌++◌, length, take, max, codes, nat_eq, nat_le, if◌then◌else◌}
use Rattle.std.specs.List.{flat_map, starts_with}
use Rattle.map_commands.specs.Reports.{digit}

-- a byte that prints is shown as it is, each other one as \x and its two digits
abbrev pub shown_byte : ℕ → List ℕ
shown_byte c = if nat_le 32 c && nat_le c 126 then c ∷ [] else 92 ∷ 120 ∷ digit (c / 16) ∷ digit (c % 16) ∷ []

-- how a word is shown: its first 80 bytes, and three dots if it has more
abbrev pub shown_word : List ℕ → List ℕ
shown_word word = flat_map shown_byte (take 80 word) ++ (if nat_le (length word) 80 then [] else codes "...")

-- what stands before the first `=` of a word; all of it if there is none
abbrev pub before_equals : List ℕ → List ℕ
before_equals [] = []
before_equals (c ∷ word) = if nat_eq c 61 then [] else c ∷ before_equals word

-- what stands after it
abbrev pub behind_equals : List ℕ → List ℕ
behind_equals [] = []
behind_equals (c ∷ word) = if nat_eq c 61 then word else behind_equals word

-- the length of an echo, if the text begins with it
abbrev pub echo_length : List ℕ → List ℕ → ℕ
echo_length text echo = if starts_with nat_eq text echo then length echo else 0

-- the length of a word's longest echo with which the text begins: of all of it, or of what stands before or after its first `=`
abbrev pub word_echo : List ℕ → List ℕ → ℕ
word_echo text word = max (echo_length text word) (max (echo_length text (before_equals word)) (echo_length text (behind_equals word)))

-- so of all words
abbrev pub longest_echo : List ℕ → List (List ℕ) → ℕ
longest_echo text [] = 0
longest_echo text (word ∷ words) = max (word_echo text word) (longest_echo text words)

-- a newline of clap's own stays
abbrev pub shown_own : ℕ → List ℕ
shown_own c = if nat_eq c 10 then c ∷ [] else shown_byte c

-- the first byte of a text, or the echo of this many bytes that begins there
abbrev pub shown_first : ℕ → ℕ → List ℕ → List ℕ
shown_first zero c text = shown_own c
shown_first (suc n) c text = shown_word (c ∷ take n text)

-- the rest of a text, whose first bytes, this many, belong to an echo that was shown
unfoldable pub told_from : List (List ℕ) → ℕ → List ℕ → List ℕ
told_from words zero [] = []
told_from words (suc n) [] = []
told_from words zero (c ∷ text) = shown_first (longest_echo (c ∷ text) words) c text ++ told_from words (longest_echo (c ∷ text) words - 1) text
told_from words (suc n) (c ∷ text) = told_from words n text

-- how a text is told that may echo these words
abbrev pub told : List (List ℕ) → List ℕ → List ℕ
told words text = told_from words 0 text

-- it is told of some text, of which no contract of clap's says more
abbrev pub IsShown : List (List ℕ) → List ℕ → Type 0
IsShown words shown = (text : List ℕ) × (shown ≡ told words text)
