-- How a reply is spelled.
use Rattle.std.specs.Prelude.{ℕ, ℤ, List, ◌∷◌, ◌++◌, codes, decimal}
use Rattle.std.specs.Fmt.{signed_decimal}
use Rattle.resp.specs.Grammar.{newline, word_bytes}

-- a line of this text after a mark
abbrev pub marked_line : ℕ → List ℕ → List ℕ
marked_line mark text = mark ∷ (text ++ newline)

-- a line of text, as `+OK`
abbrev pub simple_bytes : List ℕ → List ℕ
simple_bytes text = marked_line 43 text

-- the text of an error, as `-ERR syntax error`
abbrev pub error_bytes : List ℕ → List ℕ
error_bytes text = marked_line 45 text

-- a number, as `:1`
abbrev pub integer_bytes : ℤ → List ℕ
integer_bytes n = marked_line 58 (signed_decimal n)

-- a value: `$`, its length, and the value on a line of its own
abbrev pub value_bytes : List ℕ → List ℕ
value_bytes bytes = word_bytes bytes

-- an absent value
abbrev pub nothing_bytes : List ℕ
nothing_bytes = codes "$-1\r\n"

-- `*` and the number of replies, which come after it
abbrev pub array_head : ℕ → List ℕ
array_head n = marked_line 42 (decimal n)
