-- The results of reading.
use Rattle.std.specs.Prelude.{◌≡◌, ◌≢◌, ◌+◌, ◌≤◌, ◌<◌, ◌^◌, ℕ, Bool, not, List, ◌++◌, length, All, decimal}
use Rattle.std.specs.Char.{is_ascii_digit}
use Rattle.resp.specs.declared.command.Next.{Next}
use Rattle.resp.specs.declared.command.Next.TheVariants.{Command, Nothing, More}
use Rattle.resp.specs.declared.fault.RespFault.{RespFault}
use Rattle.resp.specs.declared.fault.NextFault.{NextFault}
use Rattle.resp.specs.declared.fault.NextFault.TheVariants.{Faulty, NoMemory}
use Rattle.resp.specs.Streams.{StopsAt, HasNo, IsFrontOf}
use Rattle.resp.specs.declared.limits.TheConstants.{COMMAND_BYTES, WORD_BYTES}
use Rattle.resp.specs.Grammar.{number_line, word_bytes, words_bytes, bytes_of, IsWord, Spells, IsIgnored, IsBegun, IsFaulty, IsFaultyWord}
use Rattle.resp.specs.LineWords.{is_blank, IsInQuotes, BeginsWord}

-- what the bytes begin with, and the words of a command
abbrev pub Reads : List ℕ → List (List ℕ) → Next → Type 0
Reads bytes words (Command rest) = (front : List ℕ) × Spells words front × (bytes ≡ front ++ rest.now)
Reads bytes words (Nothing rest) = (front : List ℕ) × IsIgnored front × (bytes ≡ front ++ rest.now)
Reads bytes words More = IsBegun bytes

-- if memory was refused, nothing is said
abbrev pub IfFaulty : NextFault → (RespFault → Type 0) → Type 0
IfFaulty (Faulty fault) P = P fault
IfFaulty NoMemory P = Unit {0}

-- why no command begins the bytes
abbrev pub Refuses : List ℕ → NextFault → Type 0
Refuses bytes next = IfFaulty next (λ fault. IsFaulty fault bytes)

-- ---- numbers and words of an array

abbrev pub is_other : ℕ → Bool
is_other b = not (is_ascii_digit b)

-- whatever follows, no number up to this one begins the bytes
abbrev pub NoDigits : ℕ → List ℕ → Type 0
NoDigits most bytes = (n : ℕ) (more rest : List ℕ) → n ≤ most → StopsAt is_other rest → bytes ++ more ≢ decimal n ++ rest

-- the line of a number after a `-`
abbrev pub IsPositiveLine : List ℕ → Type 0
IsPositiveLine bytes = (n : ℕ) × (1 ≤ n) × (n ≤ 2 ^ 63) × (bytes ≡ number_line n)

-- the line of the length of a word for which there is this much room
abbrev pub IsLengthLine : ℕ → List ℕ → Type 0
IsLengthLine room bytes = (n : ℕ) × (n ≤ WORD_BYTES) × (n ≤ room) × (bytes ≡ number_line n)

-- a word for which there is this much room
abbrev pub IsWordText : ℕ → List ℕ → Type 0
IsWordText room bytes = (word : List ℕ) × IsWord word × (length word ≤ room) × (bytes ≡ word_bytes word)

-- fewer words than this, and then a part of a word
abbrev pub LacksWords : ℕ → List ℕ → Type 0
LacksWords count bytes =
    (words : List (List ℕ)) × (part : List ℕ) × (room : ℕ) × (length words < count) × All IsWord words
    × (bytes_of words + room ≡ COMMAND_BYTES) × (bytes ≡ words_bytes words ++ part) × IsFrontOf (IsWordText room) part

-- fewer words than this, and then one with this fault
abbrev pub FailsWords : ℕ → RespFault → List ℕ → Type 0
FailsWords count fault bytes =
    (words : List (List ℕ)) × (part : List ℕ) × (room : ℕ) × (length words < count) × All IsWord words
    × (bytes_of words + room ≡ COMMAND_BYTES) × (bytes ≡ words_bytes words ++ part) × IsFaultyWord room fault part

-- ---- words of a line

-- the bytes are these two, cut before the first byte of this kind
abbrev pub CutsBefore : (ℕ → Bool) → List ℕ → List ℕ → List ℕ → Type 0
CutsBefore is bytes front back = (bytes ≡ front ++ back) × HasNo is front × StopsAt is back

-- after plain bytes and a quote come the other bytes of the word, its other quote and the rest
abbrev pub EndsQuoted : List ℕ → ℕ → List ℕ → List ℕ → List ℕ → Type 0
EndsQuoted plain quote inside word rest =
    (quoted : List ℕ) × IsInQuotes quote inside quoted rest × StopsAt is_blank rest × (word ≡ plain ++ quoted)

-- the bytes begin with no word
abbrev pub NoWord : List ℕ → Type 0
NoWord bytes = (word rest : List ℕ) → BeginsWord bytes word rest → ⊥
