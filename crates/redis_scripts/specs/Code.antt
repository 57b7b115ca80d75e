-- The code of a script: its lines after the first one, without comments, blanks at either end and empty lines.
use Rattle.std.specs.Prelude.{ℕ, ◌+◌, ◌-◌, Bool, false, not, ◌||◌, ◌&&◌, List, [], ◌∷◌, ◌++◌, length, drop, reverse, get_or, nat_eq, nat_le, if◌then◌else◌}
use Rattle.std.specs.List.{flat_map, prefix_len}
use Rattle.redis_scripts.specs.Pieces.{pieces}

-- a blank, a tab or a carriage return
abbrev pub is_blank : ℕ → Bool
is_blank c = nat_eq c 32 || (nat_eq c 9 || nat_eq c 13)

abbrev pub begins_with : ℕ → List ℕ → Bool
begins_with b [] = false
begins_with b (c ∷ rest) = nat_eq c b

-- a semicolon, a hash or two slashes
abbrev pub begins_comment : List ℕ → Bool
begins_comment text = begins_with 59 text || (begins_with 35 text || (begins_with 47 text && begins_with 47 (drop 1 text)))

-- what is before the first comment of a line
unfoldable pub before_comment : List ℕ → List ℕ
before_comment [] = []
before_comment (c ∷ cs) = if begins_comment (c ∷ cs) then [] else c ∷ before_comment cs

-- without the blanks in front
abbrev pub without_front_blanks : List ℕ → List ℕ
without_front_blanks text = drop (prefix_len is_blank text) text

-- without the blanks at the end
abbrev pub without_end_blanks : List ℕ → List ℕ
without_end_blanks text = reverse (without_front_blanks (reverse text))

-- the code in a line
unfoldable pub code_of : List ℕ → List ℕ
code_of line = without_end_blanks (without_front_blanks (before_comment line))

abbrev pub has_code : List ℕ → Bool
has_code line = not (nat_eq (length (code_of line)) 0)

-- a line's code with a newline, if it has code
abbrev pub code_line : List ℕ → List ℕ
code_line line = if has_code line then code_of line ++ 10 ∷ [] else []

abbrev pub code_of_all : List (List ℕ) → List ℕ
code_of_all lines = flat_map code_line lines

-- a script's first line, and the others
abbrev pub first_line : List ℕ → List ℕ
first_line text = get_or (pieces 10 text) 0 []

abbrev pub other_lines : List ℕ → List (List ℕ)
other_lines text = drop 1 (pieces 10 text)

-- the number of the nth line that has code, if the first of these lines has this number
unfoldable pub line_with_code : ℕ → ℕ → List (List ℕ) → ℕ
line_with_code number n [] = number
line_with_code number n (line ∷ others) =
    if has_code line then (if nat_le n 1 then number else line_with_code (number + 1) (n - 1) others)
    else line_with_code (number + 1) n others
