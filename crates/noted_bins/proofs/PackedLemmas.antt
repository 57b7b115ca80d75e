-- Entries side by side in one list of bytes.
use Rattle.std.proofs.Common.{◌≡◌, ℕ, zero, suc, ◌+◌, ◌-◌, ◌≤◌, List, [], ◌∷◌, ◌++◌, length, take, drop, map, Result, Ok, Err, refl, sym, ap, ap₂, ◌∙◌, arith, length-drop, length-append}
use Rattle.std.specs.Prelude.{All, OnErr}
use Rattle.std.proofs.Math.Seq.{drop-append_seam, take-append_seam}
use Rattle.std.proofs.lemmas.List.{take-append-le, drop-append-le, append-nil}
use Rattle.std.proofs.lemmas.List.Elements.{All-nil, All-cons, All-head, All-tail}
use Rattle.bins.specs.Table.{Entry}
use Rattle.noted_bins.specs.Packed.{LiesIn, between, entry_at}
use Rattle.noted_bins.specs.declared.packed_entries.Place.{Place}

-- more bytes at the end change nothing before them
between_kept : (bytes more : List ℕ) (from to : ℕ) → from ≤ to → to ≤ length bytes → between (bytes ++ more) from to ≡ between bytes from to
between_kept bytes more from to up inside =
    ap (take (to - from)) (drop-append-le from bytes more (omega (arith, up, inside)))
    ∙ take-append-le (to - from) (drop from bytes) more (let left = length-drop from bytes in omega (arith, up, inside, left))

entry_kept : (bytes more : List ℕ) (place : Place) → LiesIn (length bytes) place → entry_at (bytes ++ more) place ≡ entry_at bytes place
entry_kept bytes more place lies =
    let key = between_kept bytes more place.start place.middle lies.key (let up = lies.value in let inside = lies.inside in omega (arith, up, inside)) in
    let value = between_kept bytes more place.middle place.end lies.value lies.inside in
    λ i. (key i, value i)

pub entries_kept : (bytes more : List ℕ) (places : List Place) → All (LiesIn (length bytes)) places → map (entry_at (bytes ++ more)) places ≡ map (entry_at bytes) places
entries_kept bytes more [] all = refl
entries_kept bytes more (place ∷ places) all =
    let first = entry_kept bytes more place (All-head (LiesIn (length bytes)) place places all) in
    let rest = entries_kept bytes more places (All-tail (LiesIn (length bytes)) place places all) in
    λ i. first i ∷ rest i

lies_longer : (few many : ℕ) (place : Place) → few ≤ many → LiesIn few place → LiesIn many place
lies_longer few many place up lies =
    record { key = lies.key; value = lies.value; inside = let inside = lies.inside in omega (arith, up, inside); key_fits = lies.key_fits; value_fits = lies.value_fits }

pub all_longer : (few many : ℕ) (places : List Place) → few ≤ many → All (LiesIn few) places → All (LiesIn many) places
all_longer few many [] up all = All-nil (LiesIn many)
all_longer few many (place ∷ places) up all =
    All-cons (LiesIn many) place places (lies_longer few many place up (All-head (LiesIn few) place places all)) (all_longer few many places up (All-tail (LiesIn few) place places all))

-- the place of an entry at the end
abbrev pub place_of : List ℕ → List ℕ → List ℕ → Place
place_of bytes key value = record { start = length bytes; middle = length bytes + length key; end = length bytes + length key + length value }

-- the bytes of one part after another
part_after : (xs ys : List ℕ) (from to : ℕ) → from ≡ length xs → to ≡ length xs + length ys → between (xs ++ ys) from to ≡ ys
part_after xs ys from to start end =
    let many : to - from ≡ length ys = omega (arith, start, end) in
    let left : drop from (xs ++ ys) ≡ ys = ap (λ n. drop n (xs ++ ys)) start ∙ drop-append_seam xs ys in
    ap₂ take many left ∙ ap (take (length ys)) (sym (append-nil ys)) ∙ take-append_seam ys []

entry_there : (bytes key value : List ℕ) → entry_at ((bytes ++ key) ++ value) (place_of bytes key value) ≡ (key, value)
entry_there bytes key value =
    let both = length-append bytes key in
    let first = between_kept (bytes ++ key) value (length bytes) (length bytes + length key) (omega arith) (omega (arith, both)) ∙ part_after bytes key (length bytes) (length bytes + length key) refl refl in
    let second = part_after (bytes ++ key) value (length bytes + length key) (length bytes + length key + length value) (omega (arith, both)) (omega (arith, both)) in
    λ i. (first i, second i)

map_append : (f : Place → Entry) (places : List Place) (place : Place) → map f (places ++ place ∷ []) ≡ map f places ++ f place ∷ []
map_append f [] place = refl
map_append f (one ∷ places) place = ap (λ rest. f one ∷ rest) (map_append f places place)

-- more bytes alone add none
pub packed_same : (bytes key value : List ℕ) (places : List Place) → All (LiesIn (length bytes)) places
    → map (entry_at ((bytes ++ key) ++ value)) places ≡ map (entry_at bytes) places
packed_same bytes key value places all =
    let both = length-append bytes key in
    let longer = all_longer (length bytes) (length (bytes ++ key)) places (omega (arith, both)) all in
    entries_kept (bytes ++ key) value places longer ∙ entries_kept bytes key places all

-- an entry was added
pub packed_more : (bytes key value : List ℕ) (places : List Place) → All (LiesIn (length bytes)) places
    → map (entry_at ((bytes ++ key) ++ value)) (places ++ place_of bytes key value ∷ []) ≡ map (entry_at bytes) places ++ (key, value) ∷ []
packed_more bytes key value places all =
    map_append (entry_at ((bytes ++ key) ++ value)) places (place_of bytes key value)
    ∙ ap₂ (λ (es : List Entry) (e : Entry). es ++ e ∷ []) (packed_same bytes key value places all) (entry_there bytes key value)

-- what follows of a refused request
pub told_err : {T E P : Type 0} (r : Result T E) → P → OnErr r P
told_err (Ok x) p = tt
told_err (Err x) p = p

pub map_take : (f : Place → Entry) (n : ℕ) (places : List Place) → map f (take n places) ≡ take n (map f places)
map_take f zero places = refl
map_take f (suc n) [] = refl
map_take f (suc n) (place ∷ places) = ap (λ rest. f place ∷ rest) (map_take f n places)
