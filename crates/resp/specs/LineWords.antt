-- The words of a line, as `sdssplitargs` of Redis 7 splits them.
use Rattle.std.specs.Prelude.{◌≡◌, ◌≢◌, ℕ, ◌+◌, ◌*◌, ◌≤◌, ◌<◌, ◌⊎◌, ◌||◌, Bool, true, not, nat_eq, if◌then◌else◌, List, [], ◌∷◌, ◌++◌, length, All}
use Rattle.std.specs.Char.{digit_value}
use Rattle.resp.specs.Streams.{StopsAt, HasNo}

-- what ends plain bytes: a space, a tab or a `\r`
abbrev pub is_gap : ℕ → Bool
is_gap b = nat_eq b 32 || (nat_eq b 9 || nat_eq b 13)

-- what stands between words: these, `\v` and `\f`
abbrev pub is_blank : ℕ → Bool
is_blank b = is_gap b || (nat_eq b 11 || nat_eq b 12)

abbrev pub is_no_blank : ℕ → Bool
is_no_blank b = not (is_blank b)

-- `"` or `'`
abbrev pub is_quote : ℕ → Bool
is_quote b = nat_eq b 34 || nat_eq b 39

abbrev pub ends_plain : ℕ → Bool
ends_plain b = is_gap b || is_quote b

-- ---- between quotes

-- `xHH` and then the rest; the two hex digits are those of the byte
abbrev pub IsHex : List ℕ → ℕ → List ℕ → Type 0
IsHex bytes byte rest =
    (high low : ℕ) × (digit_value high < 16) × (digit_value low < 16) × (byte ≡ 16 * digit_value high + digit_value low)
    × (bytes ≡ 120 ∷ high ∷ low ∷ rest)

-- what a byte is after a backslash between `"`: `n`, `r`, `t`, `b` and `a` are as in C, any other is itself
abbrev pub escaped : ℕ → ℕ
escaped b =
    if nat_eq b 110 then 10 else if nat_eq b 114 then 13 else if nat_eq b 116 then 9 else if nat_eq b 98 then 8 else if nat_eq b 97 then 7 else b

-- between `"`: `\xHH`, or a backslash before any other byte, or a byte as it stands; and then the rest
abbrev pub IsDoubleItem : List ℕ → ℕ → List ℕ → Type 0
IsDoubleItem bytes byte rest =
    ((escape : List ℕ) × (bytes ≡ 92 ∷ escape) × IsHex escape byte rest)
    ⊎ (((b : ℕ) × (bytes ≡ 92 ∷ b ∷ rest) × (byte ≡ escaped b) × ((other : ℕ) (more : List ℕ) → IsHex (b ∷ rest) other more → ⊥))
    ⊎ ((bytes ≡ byte ∷ rest) × (byte ≢ 34) × (byte ≢ 92)))

-- between `'`: `\'`, or a byte as it stands, which a backslash is too; and then the rest
abbrev pub IsSingleItem : List ℕ → ℕ → List ℕ → Type 0
IsSingleItem bytes byte rest =
    ((bytes ≡ 92 ∷ 39 ∷ rest) × (byte ≡ 39))
    ⊎ ((bytes ≡ byte ∷ rest) × (byte ≢ 39) × ((more : List ℕ) → bytes ≢ 92 ∷ 39 ∷ more))

-- what is first between these quotes stands for this byte, and then comes the rest
abbrev pub IsItem : ℕ → List ℕ → ℕ → List ℕ → Type 0
IsItem quote bytes byte rest =
    ((quote ≡ 34) × IsDoubleItem bytes byte rest) ⊎ ((quote ≡ 39) × IsSingleItem bytes byte rest)

-- the bytes after a quote: what stands for each byte of the word, then the other quote and the rest
abbrev pub IsInQuotes : ℕ → List ℕ → List ℕ → List ℕ → Type 0
IsInQuotes quote bytes [] rest = bytes ≡ quote ∷ rest
IsInQuotes quote bytes (byte ∷ word) rest = (more : List ℕ) × IsItem quote bytes byte more × IsInQuotes quote more word rest

-- ---- words

-- a word as it stands, and the rest
abbrev pub BeginsPlain : List ℕ → List ℕ → List ℕ → Type 0
BeginsPlain bytes word rest =
    (1 ≤ length word) × HasNo ends_plain word × StopsAt is_gap rest × (bytes ≡ word ++ rest)

-- a word that begins plain, if not at once in quotes, and whose other quote ends it; and the rest
abbrev pub BeginsQuoted : List ℕ → List ℕ → List ℕ → Type 0
BeginsQuoted bytes word rest =
    (plain : List ℕ) × (quote : ℕ) × (inside quoted : List ℕ) × HasNo ends_plain plain × (is_quote quote ≡ true)
    × (bytes ≡ plain ++ quote ∷ inside) × IsInQuotes quote inside quoted rest × StopsAt is_blank rest × (word ≡ plain ++ quoted)

abbrev pub BeginsWord : List ℕ → List ℕ → List ℕ → Type 0
BeginsWord bytes word rest = BeginsPlain bytes word rest ⊎ BeginsQuoted bytes word rest

abbrev pub AreBlanks : List ℕ → Type 0
AreBlanks bytes = All (λ b. is_blank b ≡ true) bytes

-- the line is blanks, then the first word, then a blank or the end, and so on
abbrev pub HasWords : List ℕ → List (List ℕ) → Type 0
HasWords line [] = AreBlanks line
HasWords line (word ∷ words) =
    (blanks bytes rest : List ℕ) × AreBlanks blanks × StopsAt is_no_blank bytes × BeginsWord bytes word rest
    × (line ≡ blanks ++ bytes) × HasWords rest words
