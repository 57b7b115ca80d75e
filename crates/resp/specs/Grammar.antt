-- How a command is spelled, and which bytes begin none.
use Rattle.std.specs.Prelude.{◌≡◌, ◌≢◌, ℕ, ◌+◌, ◌≤◌, ◌<◌, ◌^◌, ◌⊎◌, ◌||◌, Bool, nat_eq, List, [], ◌∷◌, ◌++◌, length, sum_by, flat_map, map, All, decimal}
use Rattle.std.specs.Borrow.{Bor}
use Rattle.resp.specs.declared.limits.TheConstants.{COMMAND_WORDS, COMMAND_BYTES, WORD_BYTES, LINE_BYTES}
use Rattle.resp.specs.declared.fault.RespFault.{RespFault}
use Rattle.resp.specs.declared.fault.RespFault.TheVariants.{BadCount, NoDollar, BadLength, TooBigCommand, NoNewline, TooBigLine, UnbalancedQuotes, TooManyWords}
use Rattle.resp.specs.Streams.{IsFrontOf, NeverBegins, HasNo}
use Rattle.resp.specs.LineWords.{HasWords}

-- the words that slices lend
abbrev pub texts : List (Bor (List ℕ)) → List (List ℕ)
texts words = map (λ word. word.now) words

-- ---- arrays

-- `\r\n`
abbrev pub newline : List ℕ
newline = 13 ∷ 10 ∷ []

-- a number, without leading zeros, and the line's end
abbrev pub number_line : ℕ → List ℕ
number_line n = decimal n ++ newline

-- `$`, the word's length, and the word on a line of its own
abbrev pub word_bytes : List ℕ → List ℕ
word_bytes word = 36 ∷ (number_line (length word) ++ (word ++ newline))

abbrev pub words_bytes : List (List ℕ) → List ℕ
words_bytes words = flat_map word_bytes words

-- `*`, the number of words, and the words
abbrev pub array_bytes : List (List ℕ) → List ℕ
array_bytes words = 42 ∷ (number_line (length words) ++ words_bytes words)

abbrev pub IsWord : List ℕ → Type 0
IsWord word = length word ≤ WORD_BYTES

abbrev pub AreWords : List (List ℕ) → Type 0
AreWords words = (1 ≤ length words) × (length words ≤ COMMAND_WORDS)

-- the bytes of all words together
abbrev pub bytes_of : List (List ℕ) → ℕ
bytes_of words = sum_by length words

-- an array with these words, within the limits
abbrev pub IsArray : List (List ℕ) → List ℕ → Type 0
IsArray words bytes = AreWords words × All IsWord words × (bytes_of words ≤ COMMAND_BYTES) × (bytes ≡ array_bytes words)

-- `*0`, or `*` and a negative number of 64 bits
abbrev pub IsEmptyArray : List ℕ → Type 0
IsEmptyArray bytes =
    (bytes ≡ 42 ∷ number_line 0) ⊎ ((n : ℕ) × (1 ≤ n) × (n ≤ 2 ^ 63) × (bytes ≡ 42 ∷ 45 ∷ number_line n))

-- ---- lines

-- a newline; or a zero byte, after which no newline is found, as by C's `strchr`
abbrev pub ends_line : ℕ → Bool
ends_line b = nat_eq b 10 || nat_eq b 0

-- a line's bytes before its newline: they don't begin as an array
abbrev pub IsLineFront : List ℕ → Type 0
IsLineFront line = HasNo ends_line line × ((rest : List ℕ) → line ≢ 42 ∷ rest)

-- a line whose newline has not come, or is not found after a zero byte
abbrev pub IsOpenLine : List ℕ → Type 0
IsOpenLine bytes =
    ((line rest : List ℕ) → HasNo ends_line line → bytes ≢ line ++ 10 ∷ rest) × ((rest : List ℕ) → bytes ≢ 42 ∷ rest)

-- a line, within the limit
abbrev pub IsLine : List ℕ → List ℕ → Type 0
IsLine line bytes = IsLineFront line × (length line ≤ LINE_BYTES) × (bytes ≡ line ++ 10 ∷ [])

-- ---- commands

-- the bytes are the command of these words, as an array or as a line
abbrev pub Spells : List (List ℕ) → List ℕ → Type 0
Spells words bytes = IsArray words bytes ⊎ ((line : List ℕ) × AreWords words × IsLine line bytes × HasWords line words)

-- the bytes are an array or a line without any word, which is ignored
abbrev pub IsIgnored : List ℕ → Type 0
IsIgnored bytes = IsEmptyArray bytes ⊎ ((line : List ℕ) × IsLine line bytes × HasWords line [])

-- any array
abbrev pub IsSomeArray : List ℕ → Type 0
IsSomeArray bytes = ((words : List (List ℕ)) × IsArray words bytes) ⊎ IsEmptyArray bytes

-- what may begin a stream
abbrev pub IsWhole : List ℕ → Type 0
IsWhole bytes = ((words : List (List ℕ)) × Spells words bytes) ⊎ IsIgnored bytes

-- a proper front of an array; or an open line within the limit
abbrev pub IsBegun : List ℕ → Type 0
IsBegun bytes = IsFrontOf IsSomeArray bytes ⊎ (IsOpenLine bytes × (length bytes ≤ LINE_BYTES))

-- ---- faults

-- an array up to one of its words, with room for this many bytes
abbrev pub IsOpenArray : ℕ → List ℕ → Type 0
IsOpenArray room bytes =
    (count : ℕ) × (words : List (List ℕ)) × (length words < count) × (count ≤ COMMAND_WORDS)
    × All IsWord words × (bytes_of words + room ≡ COMMAND_BYTES)
    × (bytes ≡ 42 ∷ (number_line count ++ words_bytes words))

-- the rest of an array's first line
abbrev pub IsCountLine : List ℕ → Type 0
IsCountLine bytes =
    ((n : ℕ) × (n ≤ COMMAND_WORDS) × (bytes ≡ number_line n))
    ⊎ ((n : ℕ) × (1 ≤ n) × (n ≤ 2 ^ 63) × (bytes ≡ 45 ∷ number_line n))

-- the line of a number up to this one
abbrev pub IsNumberLine : ℕ → List ℕ → Type 0
IsNumberLine most bytes = (n : ℕ) × (n ≤ most) × (bytes ≡ number_line n)

abbrev pub IsNewline : List ℕ → Type 0
IsNewline bytes = bytes ≡ newline

-- the fault of a word for which there is this much room, in the bytes from the word on. A bad length is a fault of the limit that
-- is less: the word's, or what is left of the command's
abbrev pub IsFaultyWord : ℕ → RespFault → List ℕ → Type 0
IsFaultyWord room (NoDollar b) bytes = (rest : List ℕ) × (bytes ≡ b ∷ rest) × (b ≢ 36)
IsFaultyWord room BadLength bytes =
    (rest : List ℕ) × (bytes ≡ 36 ∷ rest) × (WORD_BYTES ≤ room) × NeverBegins (IsNumberLine WORD_BYTES) rest
IsFaultyWord room TooBigCommand bytes =
    (rest : List ℕ) × (bytes ≡ 36 ∷ rest) × (room < WORD_BYTES) × NeverBegins (IsNumberLine room) rest
IsFaultyWord room NoNewline bytes =
    (word rest : List ℕ) × IsWord word × (length word ≤ room) × (bytes ≡ 36 ∷ (number_line (length word) ++ (word ++ rest)))
    × NeverBegins IsNewline rest
IsFaultyWord room fault bytes = ⊥

-- a fault of the first word that is not whole
abbrev pub HasFaultyWord : RespFault → List ℕ → Type 0
HasFaultyWord fault bytes =
    (room : ℕ) × (head rest : List ℕ) × IsOpenArray room head × (bytes ≡ head ++ rest) × IsFaultyWord room fault rest

-- a line with this fault: its words can't be told, or are too many
abbrev pub IsFaultyLine : RespFault → List ℕ → Type 0
IsFaultyLine UnbalancedQuotes line = (words : List (List ℕ)) → HasWords line words → ⊥
IsFaultyLine TooManyWords line = (words : List (List ℕ)) × HasWords line words × (COMMAND_WORDS < length words)
IsFaultyLine fault line = ⊥

-- the first fault of the bytes: the count of an array, one of its words, a line without an end, a line
abbrev pub IsFaulty : RespFault → List ℕ → Type 0
IsFaulty BadCount bytes = (rest : List ℕ) × (bytes ≡ 42 ∷ rest) × NeverBegins IsCountLine rest
IsFaulty (NoDollar b) bytes = HasFaultyWord (NoDollar b) bytes
IsFaulty BadLength bytes = HasFaultyWord BadLength bytes
IsFaulty TooBigCommand bytes = HasFaultyWord TooBigCommand bytes
IsFaulty NoNewline bytes = HasFaultyWord NoNewline bytes
IsFaulty TooBigLine bytes =
    (line rest : List ℕ) × IsOpenLine line × (LINE_BYTES < length line) × (bytes ≡ line ++ rest)
IsFaulty UnbalancedQuotes bytes =
    (line rest : List ℕ) × IsLine line (line ++ 10 ∷ []) × (bytes ≡ line ++ 10 ∷ rest) × IsFaultyLine UnbalancedQuotes line
IsFaulty TooManyWords bytes =
    (line rest : List ℕ) × IsLine line (line ++ 10 ∷ []) × (bytes ≡ line ++ 10 ∷ rest) × IsFaultyLine TooManyWords line
