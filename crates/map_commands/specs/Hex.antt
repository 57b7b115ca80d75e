-- Hex text: pairs of hexadecimal digits, with blank space before, between and after them.
use Rattle.std.specs.Prelude.{◌≡◌, ◌≢◌, ◌≤◌, ◌⊎◌, ℕ, ◌+◌, ◌-◌, ◌*◌, List, [], ◌∷◌, ◌++◌, length, Option, Some, None, IsSome, unwrap_or, nat_le, ◌&&◌, if◌then◌else◌}
use Rattle.std.specs.List.{flat_map, AllByRecursion}

-- blank, tab, carriage return or newline
abbrev pub IsBlank : ℕ → Type 0
IsBlank c = (c ≡ 32) ⊎ ((c ≡ 9) ⊎ ((c ≡ 13) ⊎ (c ≡ 10)))

-- the value of a hexadecimal digit: 0 to 9, A to F or a to f
abbrev pub digit_of : ℕ → Option ℕ
digit_of c =
    if nat_le 48 c && nat_le c 57 then Some (c - 48)
    else (if nat_le 65 c && nat_le c 70 then Some (c - 55)
    else (if nat_le 97 c && nat_le c 102 then Some (c - 87)
    else None))

-- what hex text consists of
pub data Piece : Type 0 where
  blank : ℕ → Piece
  pair : ℕ → ℕ → Piece

abbrev pub IsPiece : Piece → Type 0
IsPiece (blank c) = IsBlank c
IsPiece (pair high low) = IsSome (digit_of high) × IsSome (digit_of low)

abbrev pub piece_text : Piece → List ℕ
piece_text (blank c) = c ∷ []
piece_text (pair high low) = high ∷ low ∷ []

-- blank space stands for no byte, a pair for one
abbrev pub piece_bytes : Piece → List ℕ
piece_bytes (blank c) = []
piece_bytes (pair high low) = (16 * unwrap_or (digit_of high) 0 + unwrap_or (digit_of low) 0) ∷ []

-- the text is blank space and pairs, and these are the pairs' bytes
abbrev pub SpellsBytes : List ℕ → List ℕ → Type 0
SpellsBytes text bytes = (pieces : List Piece) × AllByRecursion IsPiece pieces × (text ≡ flat_map piece_text pieces) × (bytes ≡ flat_map piece_bytes pieces)

-- neither blank space nor a pair begins the text
abbrev pub HasNoPiece : List ℕ → Type 0
HasNoPiece text = (piece : Piece) (rest : List ℕ) → IsPiece piece → text ≢ piece_text piece ++ rest

-- the byte after the longest front that is hex text: bytes are left there, and no piece begins
pub record IsFault (text : List ℕ) (place : ℕ) : Type 0 where
  pub front : List ℕ
  pub bytes : List ℕ
  pub rest : List ℕ
  pub parts : text ≡ front ++ rest
  pub spelled : SpellsBytes front bytes
  pub here : place ≡ length front
  pub some : 1 ≤ length rest
  pub none : HasNoPiece rest
