-- Places that are reached, after a piece.
use Rattle.std.proofs.Common.{arith, ◌≡◌, ℕ, zero, suc, ◌+◌, ◌<◌, ◌≤◌, Bool, true, false, ◌&&◌, ◌||◌, List, [], ◌∷◌, ◌++◌, length, drop, take, set, replicate, get_or, drop-cons, append_assoc, add-one, refl, sym, ap, ◌∙◌}
use Rattle.redis_commands.specs.Matching.{Piece, fits, some_suffix, then_text, stand_for, pieces_after, piece_at, more_bytes}
use Rattle.redis_commands.specs.Matching.Piece.{AnyBytes, AnyByte, OneOf, NoneOf, This}
use Rattle.redis_commands.specs.Places.{piece_by, is_carried, shifted, spread, some_place, GoesOnBy}
use Rattle.redis_commands.specs.declared.glob.Piece.{Piece as ShownPiece}
use Rattle.redis_commands.specs.declared.glob.Piece.TheVariants as shown
use Rattle.redis_commands.proofs.GlobLemmas.{pieces_first, pieces_none}
use Rattle.std.proofs.lemmas.List.{take_all, drop_all, append-nil, take_more_set, drop-set-lt, take-replicate}

or_false : (a : Bool) → (a || false) ≡ a
or_false true = refl
or_false false = refl

or_assoc : (a b c : Bool) → ((a || b) || c) ≡ (a || (b || c))
or_assoc true b c = refl
or_assoc false b c = refl

and_assoc : (a b c : Bool) → ((a && b) && c) ≡ (a && (b && c))
and_assoc true b c = refl
and_assoc false b c = refl

and_false : (a : Bool) → (a && false) ≡ false
and_false true = refl
and_false false = refl

-- after a piece for which one byte stands
pub some_shifted : (piece : Piece) (test : List ℕ → Bool) (carried : Bool) (places : List Bool) (text : List ℕ) → length places ≡ length text + 1
    → some_place test (shifted carried piece places text) text ≡ ((carried && test text) || some_place (then_text piece test) places text)
unfolding shifted some_place
some_shifted piece test carried [] text h = absurd (omega (arith, h))
some_shifted piece test carried (place ∷ []) [] h = rw (and_false place) refl
some_shifted piece test carried (place ∷ next ∷ places) [] h = absurd (omega (arith, h))
some_shifted piece test carried (place ∷ places) (b ∷ text) h =
    let more = some_shifted piece test (place && fits piece b) places text (omega (arith, h)) in
    ap (λ r. (carried && test (b ∷ text)) || r) (more ∙ ap (λ l. l || some_place (then_text piece test) places text) (and_assoc place (fits piece b) (test text)))

both_ways : (r p f s q : Bool) → (((r || p) && f) || (((r || p) && s) || q)) ≡ ((r && (f || s)) || ((p && (f || s)) || q))
both_ways true true true s q = refl
both_ways true true false true q = refl
both_ways true true false false q = refl
both_ways true false true s q = refl
both_ways true false false true q = refl
both_ways true false false false q = refl
both_ways false true true s q = refl
both_ways false true false true q = refl
both_ways false true false false q = refl
both_ways false false f s q = refl

-- after any bytes
pub some_spread : (test : List ℕ → Bool) (reached : Bool) (places : List Bool) (text : List ℕ) → length places ≡ length text + 1
    → some_place test (spread reached places) text ≡ ((reached && some_suffix test text) || some_place (some_suffix test) places text)
unfolding spread some_place some_suffix
some_spread test reached [] text h = absurd (omega (arith, h))
some_spread test reached (place ∷ []) [] h = last reached place (test []) where
  last : (r p f : Bool) → (((r || p) && f) || false) ≡ ((r && f) || ((p && f) || false))
  last true true true = refl
  last true true false = refl
  last true false true = refl
  last true false false = refl
  last false p f = refl
some_spread test reached (place ∷ next ∷ places) [] h = absurd (omega (arith, h))
some_spread test reached (place ∷ places) (b ∷ text) h =
    let more = some_spread test (reached || place) places text (omega (arith, h)) in
    ap (λ r. ((reached || place) && test (b ∷ text)) || r) more
    ∙ both_ways reached place (test (b ∷ text)) (some_suffix test text) (some_place (some_suffix test) places text)

-- ---- one place after the other

pub shift_step : (piece : Piece) (places : List Bool) (i : ℕ) (carried next : Bool) (left after : List ℕ) (total : List Bool) → i < length places
    → next ≡ is_carried (get_or places i false) piece left → after ≡ drop 1 left
    → take i places ++ shifted carried piece (drop i places) left ≡ total
    → take (i + 1) (set places i carried) ++ shifted next piece (drop (i + 1) (set places i carried)) after ≡ total
unfolding shifted
shift_step piece places i carried next left after total h is same before =
    let rest = drop (i + 1) places in
    let opened : shifted carried piece (drop i places) left ≡ carried ∷ shifted (is_carried (get_or places i false) piece left) piece rest (drop 1 left)
    = rw (drop-cons places i false h, add-one) refl in
    ap (λ l. l ++ shifted next piece (drop (i + 1) (set places i carried)) after) (take_more_set places i carried h)
    ∙ append_assoc (take i places) (carried ∷ []) (shifted next piece (drop (i + 1) (set places i carried)) after)
    ∙ ap (λ l. take i places ++ (carried ∷ shifted next piece l after)) (drop-set-lt (i + 1) places i carried (omega arith))
    ∙ ap (λ b. take i places ++ (carried ∷ shifted b piece rest after)) is
    ∙ ap (λ l. take i places ++ (carried ∷ shifted (is_carried (get_or places i false) piece left) piece rest l)) same
    ∙ ap (λ l. take i places ++ l) (sym opened) ∙ before

pub shift_end : (piece : Piece) (places : List Bool) (i : ℕ) (carried : Bool) (left : List ℕ) (total : List Bool) → length places ≤ i
    → take i places ++ shifted carried piece (drop i places) left ≡ total → places ≡ total
unfolding shifted
shift_end piece places i carried left total h before =
    let none : shifted carried piece (drop i places) left ≡ [] = rw (drop_all i places h) refl in
    sym (take_all i places h) ∙ sym (append-nil (take i places)) ∙ ap (λ l. take i places ++ l) (sym none) ∙ before

pub spread_step : (places : List Bool) (i : ℕ) (reached : Bool) (total : List Bool) → i < length places
    → take i places ++ spread reached (drop i places) ≡ total
    → take (i + 1) (set places i (reached || get_or places i false)) ++ spread (reached || get_or places i false) (drop (i + 1) (set places i (reached || get_or places i false))) ≡ total
unfolding spread
spread_step places i reached total h before =
    let next = reached || get_or places i false in
    let opened : spread reached (drop i places) ≡ next ∷ spread next (drop (i + 1) places) = rw (drop-cons places i false h, add-one) refl in
    ap (λ l. l ++ spread next (drop (i + 1) (set places i next))) (take_more_set places i next h)
    ∙ append_assoc (take i places) (next ∷ []) (spread next (drop (i + 1) (set places i next)))
    ∙ ap (λ l. take i places ++ (next ∷ spread next l)) (drop-set-lt (i + 1) places i next (omega arith))
    ∙ ap (λ l. take i places ++ l) (sym opened) ∙ before

pub spread_end : (places : List Bool) (i : ℕ) (reached : Bool) (total : List Bool) → length places ≤ i
    → take i places ++ spread reached (drop i places) ≡ total → places ≡ total
unfolding spread
spread_end places i reached total h before =
    let none : spread reached (drop i places) ≡ [] = rw (drop_all i places h) refl in
    sym (take_all i places h) ∙ sym (append-nil (take i places)) ∙ ap (λ l. take i places ++ l) (sym none) ∙ before

pub length_shifted : (carried : Bool) (piece : Piece) (places : List Bool) (text : List ℕ) → length (shifted carried piece places text) ≡ length places
unfolding shifted
length_shifted carried piece [] text = refl
length_shifted carried piece (place ∷ places) text = ap suc (length_shifted (is_carried place piece text) piece places (drop 1 text))

pub length_spread : (reached : Bool) (places : List Bool) → length (spread reached places) ≡ length places
unfolding spread
length_spread reached [] = refl
length_spread reached (place ∷ places) = ap suc (length_spread (reached || place) places)

-- ---- a piece

pub any_bytes_go_on : (old : List Bool) (text : List ℕ) → length old ≡ length text + 1 → GoesOnBy AnyBytes old (spread false old) text
unfolding stand_for
any_bytes_go_on old text h pieces = sym (some_spread (stand_for pieces) false old text h)

-- a piece for which one byte stands
abbrev IsOne : Piece → Type 0
IsOne AnyBytes = ⊥
IsOne piece = Unit {0}

pub one_byte_goes_on : (piece : Piece) (old : List Bool) (text : List ℕ) → IsOne piece → length old ≡ length text + 1 → GoesOnBy piece old (shifted false piece old text) text
unfolding stand_for
one_byte_goes_on AnyBytes old text one h pieces = absurd one
one_byte_goes_on AnyByte old text one h pieces = sym (some_shifted AnyByte (stand_for pieces) false old text h)
one_byte_goes_on (OneOf class) old text one h pieces = sym (some_shifted (OneOf class) (stand_for pieces) false old text h)
one_byte_goes_on (NoneOf class) old text one h pieces = sym (some_shifted (NoneOf class) (stand_for pieces) false old text h)
one_byte_goes_on (This b) old text one h pieces = sym (some_shifted (This b) (stand_for pieces) false old text h)

-- ---- the end and the beginning

pub some_place_end : (places : List Bool) (text : List ℕ) → length places ≡ length text + 1
    → get_or places (length text) false ≡ some_place (stand_for []) places text
unfolding some_place stand_for
some_place_end [] text h = absurd (omega (arith, h))
some_place_end (true ∷ []) [] h = refl
some_place_end (false ∷ []) [] h = refl
some_place_end (place ∷ next ∷ places) [] h = absurd (omega (arith, h))
some_place_end (place ∷ places) (b ∷ text) h = some_place_end places text (omega (arith, h)) ∙ sym (ap (λ l. l || some_place (stand_for []) places text) (and_false place))

none_reached : (test : List ℕ → Bool) (n : ℕ) (text : List ℕ) → some_place test (replicate n false) text ≡ false
unfolding some_place
none_reached test zero text = refl
none_reached test (suc n) text = none_reached test n (drop 1 text)

pub first_reached : (test : List ℕ → Bool) (n : ℕ) (text : List ℕ) (places : List Bool) → places ≡ true ∷ replicate n false → some_place test places text ≡ test text
unfolding some_place
first_reached test n text places e = rw (e, none_reached test n (drop 1 text)) (or_false (test text))

-- ---- the same of what the code shows

pub goes_on_by_any : (piece : ShownPiece) (old new : List Bool) (text : List ℕ) → piece ≡ shown.AnyBytes → length old ≡ length text + 1 → new ≡ spread false old
    → GoesOnBy (piece_by piece) old new text
goes_on_by_any piece old new text is h e pieces =
    ap (λ p. some_place (stand_for (piece_by p ∷ pieces)) old text) is ∙ any_bytes_go_on old text h pieces ∙ ap (λ places. some_place (stand_for pieces) places text) (sym e)

is_one : (piece : ShownPiece) → (piece ≡ shown.AnyBytes → ⊥) → IsOne (piece_by piece)
is_one shown.AnyBytes other = other refl
is_one shown.AnyByte other = tt
is_one (shown.OneOf class) other = tt
is_one (shown.NoneOf class) other = tt
is_one (shown.This b) other = tt

pub goes_on_by_one : (piece : ShownPiece) (old new : List Bool) (text : List ℕ) → (piece ≡ shown.AnyBytes → ⊥) → length old ≡ length text + 1
    → new ≡ shifted false (piece_by piece) old text → GoesOnBy (piece_by piece) old new text
goes_on_by_one piece old new text other h e pieces =
    one_byte_goes_on (piece_by piece) old text (is_one piece other) h pieces ∙ ap (λ places. some_place (stand_for pieces) places text) (sym e)

-- a pattern after its first piece
pub stands_next : (left rest next : List ℕ) (k : ℕ) (piece : Piece) (old new : List Bool) (text : List ℕ) → 1 ≤ length left → rest ≡ drop 1 left
    → k ≡ more_bytes (get_or left 0 0) rest → next ≡ drop k rest → piece ≡ piece_at (get_or left 0 0) rest → GoesOnBy piece old new text
    → some_place (stand_for (pieces_after 0 next)) new text ≡ some_place (stand_for (pieces_after 0 left)) old text
stands_next left rest next k piece old new text h is same after first on =
    sym (on (pieces_after 0 next)) ∙ ap (λ p. some_place (stand_for (p ∷ pieces_after 0 next)) old text) first
    ∙ ap (λ l. some_place (stand_for l) old text) (sym (pieces_first left rest next k h is same after))

pub stands_end : (left : List ℕ) (places : List Bool) (text : List ℕ) → length left < 1 → length places ≡ length text + 1
    → get_or places (length text) false ≡ some_place (stand_for (pieces_after 0 left)) places text
stands_end left places text none h =
    some_place_end places text h ∙ ap (λ l. some_place (stand_for l) places text) (sym (pieces_none left none))

-- at the beginning
pub begun : (n m : ℕ) → n < m → take (n + 1) (set (replicate m false) 0 true) ≡ true ∷ replicate n false
begun n zero h = absurd (omega (arith, h))
begun n (suc m) h = rw add-one (ap (λ l. true ∷ l) (take-replicate n m false (omega (arith, h))))
