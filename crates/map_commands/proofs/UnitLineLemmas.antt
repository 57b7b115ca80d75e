-- Bytes in hex, one after the other.
use Rattle.std.proofs.Common.{◌≡◌, ℕ, zero, suc, ◌+◌, ◌*◌, ◌/◌, ◌%◌, ◌<◌, ◌≤◌, Bool, true, false, Some, List, [], ◌∷◌, ◌++◌, length, drop, get_or, refl, sym, ap, subst, ◌∙◌, inl, inr, arith, below_more}
use Rattle.std.specs.Prelude.{Option, IsSome, unwrap_or, if◌then◌else◌, nat_eq}
use Rattle.std.specs.List.{All, flat_map}
use Rattle.std.proofs.lemmas.List.Elements.{All-head, All-tail}
use Rattle.map_commands.specs.Hex.{Piece, blank, pair, IsPiece, IsBlank, digit_of, piece_bytes, SpellsBytes}
use Rattle.map_commands.specs.Reports.{digit, separator, unit_lines_from}

-- the lines of what is left begin with the next byte's
pub unit_lines_from-next : (k index : ℕ) (bytes : List ℕ) → index < length bytes
    → unit_lines_from k (drop index bytes) ≡ digit (get_or bytes index 0 / 16) ∷ digit (get_or bytes index 0 % 16) ∷ separator k ∷ unit_lines_from (suc k) (drop (suc index) bytes)
unfolding unit_lines_from
unit_lines_from-next k index [] h = absurd (omega arith)
unit_lines_from-next k zero (b ∷ bs) h = refl
unit_lines_from-next k (suc index) (b ∷ bs) h = unit_lines_from-next k index bs (omega arith)

-- and none are left if no byte is
pub unit_lines_from-done : (k index : ℕ) (bytes : List ℕ) → length bytes ≤ index → unit_lines_from k (drop index bytes) ≡ []
unfolding unit_lines_from
unit_lines_from-done k zero [] h = refl
unit_lines_from-done k (suc index) [] h = refl
unit_lines_from-done k zero (b ∷ bs) h = absurd (omega arith)
unit_lines_from-done k (suc index) (b ∷ bs) h = unit_lines_from-done k index bs (omega arith)

-- a number's digit is read as the number
abbrev IsRead : ℕ → Type 0
IsRead n = digit_of (digit n) ≡ Some n

read_below_4 : (n : ℕ) → n < 4 → IsRead n
read_below_4 = below_more IsRead 3 (below_more IsRead 2 (below_more IsRead 1 (below_more IsRead 0 (λ n none. absurd (omega (arith, none))) refl) refl) refl) refl

read_below_8 : (n : ℕ) → n < 8 → IsRead n
read_below_8 = below_more IsRead 7 (below_more IsRead 6 (below_more IsRead 5 (below_more IsRead 4 read_below_4 refl) refl) refl) refl

read_below_12 : (n : ℕ) → n < 12 → IsRead n
read_below_12 = below_more IsRead 11 (below_more IsRead 10 (below_more IsRead 9 (below_more IsRead 8 read_below_8 refl) refl) refl) refl

digit_of-digit : (n : ℕ) → n < 16 → IsRead n
digit_of-digit = below_more IsRead 15 (below_more IsRead 14 (below_more IsRead 13 (below_more IsRead 12 read_below_12 refl) refl) refl) refl

is_digit : (n : ℕ) → n < 16 → IsSome (digit_of (digit n))
is_digit n small = subst (λ (o : Option ℕ). IsSome o) (sym (digit_of-digit n small)) refl

digit_value : (n : ℕ) → n < 16 → unwrap_or (digit_of (digit n)) 0 ≡ n
digit_value n small = ap (λ (o : Option ℕ). unwrap_or o 0) (digit_of-digit n small)

newline_or_blank : (b : Bool) → IsBlank (if b then 10 else 32)
newline_or_blank true = inr (inr (inr refl))
newline_or_blank false = inl refl

-- the two digits of a byte are a pair that spells it
abbrev byte_pair : ℕ → Piece
byte_pair byte = pair (digit (byte / 16)) (digit (byte % 16))

IsPiece-byte_pair : (byte : ℕ) → byte < 256 → IsPiece (byte_pair byte)
IsPiece-byte_pair byte small = (is_digit (byte / 16) (omega arith), is_digit (byte % 16) (omega arith))

bytes_of-byte_pair : (byte : ℕ) → byte < 256 → piece_bytes (byte_pair byte) ≡ byte ∷ []
bytes_of-byte_pair byte small =
    let high = digit_value (byte / 16) (omega arith) in
    let low = digit_value (byte % 16) (omega arith) in
    let whole : 16 * (byte / 16) + byte % 16 ≡ byte = omega arith in
    ap (λ (n : ℕ). n ∷ []) (ap (λ (n : ℕ). 16 * n + unwrap_or (digit_of (digit (byte % 16))) 0) high ∙ ap (λ (n : ℕ). 16 * (byte / 16) + n) low ∙ whole)

-- the lines are hex text of the bytes
pub unit_lines_from-spells : (k : ℕ) (bytes : List ℕ) → All (λ byte. byte < 256) bytes → SpellsBytes (unit_lines_from k bytes) bytes
unfolding unit_lines_from
unit_lines_from-spells k [] small = ([], tt, refl, refl)
unit_lines_from-spells k (byte ∷ bytes) small =
    let first : byte < 256 = All-head (λ b. b < 256) byte bytes small in
    let rest = unit_lines_from-spells (suc k) bytes (All-tail (λ b. b < 256) byte bytes small) in (
      byte_pair byte ∷ blank (separator k) ∷ rest.0,
      (IsPiece-byte_pair byte first, (newline_or_blank (nat_eq (k % 8) 7), rest.1)),
      ap (λ (l : List ℕ). digit (byte / 16) ∷ digit (byte % 16) ∷ separator k ∷ l) rest.2,
      ap (λ (l : List ℕ). byte ∷ l) rest.3 ∙ sym (ap (λ (l : List ℕ). l ++ flat_map piece_bytes rest.0) (bytes_of-byte_pair byte first)),
    )
