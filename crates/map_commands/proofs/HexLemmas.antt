-- Hex text piece by piece: how it grows, and that it is read in one way.
use Rattle.std.proofs.Common.{◌≡◌, ℕ, List, [], ◌∷◌, ◌++◌, None, is_some, true, refl, sym, ap, ◌∙◌, inl, inr, append_assoc, append-nil}
use Rattle.std.specs.Prelude.{IsSome}
use Rattle.std.specs.List.{flat_map, AllByRecursion}
use Rattle.std.proofs.lemmas.List.Concat.{flat_map-append}
use Rattle.map_commands.specs.Hex.{Piece, blank, pair, IsPiece, IsBlank, digit_of, piece_text, piece_bytes, HasNoPiece, SpellsBytes}

ArePieces-push : (pieces : List Piece) (piece : Piece) → AllByRecursion IsPiece pieces → IsPiece piece → AllByRecursion IsPiece (pieces ++ piece ∷ [])
ArePieces-push [] piece all fits = (fits, tt)
ArePieces-push (p ∷ pieces) piece all fits = (all.0, ArePieces-push pieces piece all.1 fits)

-- the texts, or the bytes, of one more piece
flat_map-push : (f : Piece → List ℕ) (pieces : List Piece) (piece : Piece) → flat_map f (pieces ++ piece ∷ []) ≡ flat_map f pieces ++ f piece
flat_map-push f pieces piece = flat_map-append f pieces (piece ∷ []) ∙ ap (λ l. flat_map f pieces ++ l) (append-nil (f piece))

-- one more piece goes to the front that was read
pub front_takes_piece : (all front rest after bytes read more : List ℕ) (piece : Piece) → all ≡ front ++ rest → SpellsBytes front bytes → IsPiece piece → rest ≡ piece_text piece ++ after
    → read ≡ piece_bytes piece → more ≡ bytes ++ read → (x : List ℕ) × (all ≡ x ++ after) × SpellsBytes x more
front_takes_piece all front rest after bytes read more piece parts spelled fits e r m = (
  front ++ piece_text piece,
  parts ∙ ap (λ l. front ++ l) e ∙ sym (append_assoc front (piece_text piece) after),
  (
    spelled.0 ++ piece ∷ [],
    ArePieces-push spelled.0 piece spelled.1 fits,
    ap (λ l. l ++ piece_text piece) spelled.2 ∙ sym (flat_map-push piece_text spelled.0 piece),
    m ∙ ap (λ l. bytes ++ l) r ∙ ap (λ l. l ++ piece_bytes piece) spelled.3 ∙ sym (flat_map-push piece_bytes spelled.0 piece),
  ),
)

-- a blank is no digit
digit_of-blank : (c : ℕ) → IsBlank c → digit_of c ≡ None
digit_of-blank c (inl e) = rw e refl
digit_of-blank c (inr (inl e)) = rw e refl
digit_of-blank c (inr (inr (inl e))) = rw e refl
digit_of-blank c (inr (inr (inr e))) = rw e refl

blank_or_digit : (c d : ℕ) → IsBlank c → IsSome (digit_of d) → c ≡ d → ⊥
blank_or_digit c d is_blank is_digit e =
    let none : digit_of d ≡ None = ap digit_of (sym e) ∙ digit_of-blank c is_blank in
    let bad : is_some (digit_of d) ≡ true = is_digit in
    absurd (let wrong = rw none at bad in cc)

-- if no piece begins what is left, the pieces of the whole text are those that were read
same_pieces : (ps qs : List Piece) (rest : List ℕ) → AllByRecursion IsPiece ps → AllByRecursion IsPiece qs → HasNoPiece rest → flat_map piece_text ps ≡ flat_map piece_text qs ++ rest → (ps ≡ qs) × (rest ≡ [])
same_pieces [] [] rest are be none e = (refl, sym e)
same_pieces [] (blank d ∷ qs) rest are be none e = absurd cc
same_pieces [] (pair h l ∷ qs) rest are be none e = absurd cc
same_pieces (p ∷ ps) [] rest are be none e = absurd (none p (flat_map piece_text ps) are.0 (sym e))
same_pieces (blank c ∷ ps) (blank d ∷ qs) rest are be none e =
    let first : c ≡ d = cc in
    let others = same_pieces ps qs rest are.1 be.1 none (cc) in
    (cc (first, others.0), others.1)
same_pieces (blank c ∷ ps) (pair h l ∷ qs) rest are be none e = absurd (blank_or_digit c h are.0 be.0.0 (cc))
same_pieces (pair h l ∷ ps) (blank d ∷ qs) rest are be none e = absurd (blank_or_digit d h be.0 are.0.0 (cc))
same_pieces (pair h l ∷ ps) (pair h' l' ∷ qs) rest are be none e =
    let high : h ≡ h' = cc in
    let low : l ≡ l' = cc in
    let others = same_pieces ps qs rest are.1 be.1 none (cc) in
    (cc (high, low, others.0), others.1)

-- hex text spells what was read of it before the first byte at which no piece begins, and that is all of it
pub read_once : (text front rest a b : List ℕ) → SpellsBytes text a → SpellsBytes front b → text ≡ front ++ rest → HasNoPiece rest → (b ≡ a) × (rest ≡ [])
read_once text front rest a b whole part parts none =
    let e : flat_map piece_text whole.0 ≡ flat_map piece_text part.0 ++ rest = sym whole.2 ∙ parts ∙ ap (λ l. l ++ rest) part.2 in
    let same = same_pieces whole.0 part.0 rest whole.1 part.1 none e in
    (part.3 ∙ ap (flat_map piece_bytes) (sym same.0) ∙ sym whole.3, same.1)
