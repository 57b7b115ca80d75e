-- Patterns of keys, as Redis reads them: `*`, `?`, `[abc]`, `[^a]`, `[a-z]`, and `\` before a byte that means itself.
use Rattle.std.specs.Prelude.{ℕ, zero, suc, ◌+◌, Bool, true, false, ◌&&◌, ◌||◌, not, List, [], ◌∷◌, length, codes, nat_eq, nat_le, min, max, bytes_eq, if◌then◌else◌}

-- ---- classes, as `[a-z]`: what is after the `[`, or after `[^`, up to the end of the pattern

-- 93 is `]`, 92 is `\`, 45 is `-`
abbrev pub is_end : ℕ → Bool
is_end b = nat_eq b 93

abbrev pub is_escape : ℕ → Bool
is_escape b = nat_eq b 92

abbrev pub is_dash : ℕ → Bool
is_dash b = nat_eq b 45

-- between two bytes, whichever is less
abbrev pub is_between : ℕ → ℕ → ℕ → Bool
is_between a z b = nat_le (min a z) b && nat_le b (max a z)

-- how many bytes after its first one belong to the first member: `\]` has one more, and `a-z` two
abbrev pub more_of_member : ℕ → List ℕ → ℕ
more_of_member x [] = 0
more_of_member x (y ∷ []) = if is_escape x then 1 else 0
more_of_member x (y ∷ z ∷ more) = if is_escape x then 1 else (if is_dash y then 2 else 0)

-- the byte is in the first member
abbrev pub is_first : ℕ → List ℕ → ℕ → Bool
is_first x [] b = nat_eq x b
is_first x (y ∷ []) b = if is_escape x then nat_eq y b else nat_eq x b
is_first x (y ∷ z ∷ more) b = if is_escape x then nat_eq y b else (if is_dash y then is_between x z b else nat_eq x b)

-- the byte is in a member before the `]`, or before the end; the first n bytes belong to the member before
unfoldable pub is_member_after : ℕ → List ℕ → ℕ → Bool
is_member_after n [] b = false
is_member_after (suc n) (x ∷ more) b = is_member_after n more b
is_member_after zero (x ∷ more) b =
    if is_end x then false else is_first x more b || is_member_after (more_of_member x more) more b

abbrev pub is_member : List ℕ → ℕ → Bool
is_member class b = is_member_after 0 class b

-- how many bytes the members and the `]` take
unfoldable pub class_length_after : ℕ → List ℕ → ℕ
class_length_after n [] = 0
class_length_after (suc n) (x ∷ more) = 1 + class_length_after n more
class_length_after zero (x ∷ more) = if is_end x then 1 else 1 + class_length_after (more_of_member x more) more

abbrev pub class_length : List ℕ → ℕ
class_length class = class_length_after 0 class

-- ---- pieces of a pattern

-- any bytes; any byte; one of the members of a class; none of them; this byte
pub data Piece : Type 0 where
  AnyBytes : Piece
  AnyByte : Piece
  OneOf : List ℕ → Piece
  NoneOf : List ℕ → Piece
  This : ℕ → Piece

-- a byte stands for the piece
abbrev pub fits : Piece → ℕ → Bool
fits AnyBytes b = true
fits AnyByte b = true
fits (OneOf members) b = is_member members b
fits (NoneOf members) b = not (is_member members b)
fits (This x) b = nat_eq x b

-- 94 is `^`
abbrev pub class_at : List ℕ → Piece
class_at [] = OneOf []
class_at (x ∷ more) = if nat_eq x 94 then NoneOf more else OneOf (x ∷ more)

abbrev pub class_bytes : List ℕ → ℕ
class_bytes [] = 0
class_bytes (x ∷ more) = if nat_eq x 94 then 1 + class_length more else class_length (x ∷ more)

-- a `\` at the end means itself
abbrev pub escaped : List ℕ → Piece
escaped [] = This 92
escaped (x ∷ more) = This x

-- the first piece, and how many bytes after its first one belong to it; 42 is `*`, 63 is `?`, 91 is `[`
abbrev pub piece_at : ℕ → List ℕ → Piece
piece_at x more =
    if nat_eq x 42 then AnyBytes
    else (if nat_eq x 63 then AnyByte
    else (if nat_eq x 91 then class_at more
    else (if nat_eq x 92 then escaped more else This x)))

abbrev pub more_bytes : ℕ → List ℕ → ℕ
more_bytes x more =
    if nat_eq x 91 then class_bytes more
    else (if nat_eq x 92 then min 1 (length more) else 0)

-- the pieces of a pattern; its first n bytes belong to the piece before
unfoldable pub pieces_after : ℕ → List ℕ → List Piece
pieces_after n [] = []
pieces_after (suc n) (x ∷ more) = pieces_after n more
pieces_after zero (x ∷ more) = piece_at x more ∷ pieces_after (more_bytes x more) more

-- ---- matches

-- a suffix of the text, the whole or none of it too
unfoldable pub some_suffix : (List ℕ → Bool) → List ℕ → Bool
some_suffix test [] = test []
some_suffix test (b ∷ text) = test (b ∷ text) || some_suffix test text

-- a byte that fits, and then a text
abbrev pub then_text : Piece → (List ℕ → Bool) → List ℕ → Bool
then_text piece test [] = false
then_text piece test (b ∷ text) = fits piece b && test text

abbrev pub is_nil : List ℕ → Bool
is_nil [] = true
is_nil (b ∷ text) = false

-- the pieces stand for the text
unfoldable pub stand_for : List Piece → List ℕ → Bool
stand_for [] text = is_nil text
stand_for (AnyBytes ∷ pieces) text = some_suffix (stand_for pieces) text
stand_for (piece ∷ pieces) text = then_text piece (stand_for pieces) text

-- the text matches the pattern; the empty text, the empty pattern and `*` alone
abbrev pub matches : List ℕ → List ℕ → Bool
matches pattern [] = is_nil pattern || bytes_eq pattern (codes "*")
matches pattern (b ∷ text) = stand_for (pieces_after 0 pattern) (b ∷ text)
