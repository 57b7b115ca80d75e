-- Entries in the order of positions.
use Rattle.std.proofs.Common.{◌≡◌, ℕ, ◌+◌, ◌<◌, List, [], ◌∷◌, length, drop, get_or, ap, subst, ◌∙◌, arith, ext_get_or, add-one, drop-cons}
use Rattle.std.specs.List.{range_with_len}
use Rattle.std.specs.List.Sorted.{IsPermutation, IsSortedBy}
use Rattle.std.proofs.lemmas.List.{length-map, get_or-map}
use Rattle.std.proofs.lemmas.List.FromFn.{length-map-range_with_len, get_or-map-range_with_len}
use Rattle.std.proofs.lemmas.List.Sorted.{IsPermutation-map}
use Rattle.bins.specs.Table.{Entry}
use Rattle.bins.specs.Copies.{comes_before}
use Rattle.bins.specs.Entries.{entries_at, entry_of}

abbrev nobody : Entry
nobody = ([], [])

-- all entries stand at all positions
all_entries : (es : List Entry) → entries_at es (range_with_len 0 (length es)) ≡ es
all_entries es = ext_get_or nobody _ _ (length-map-range_with_len (entry_of es) 0 (length es)) (λ i below.
    let low : i < length es = omega (arith, below, length-map-range_with_len (entry_of es) 0 (length es)) in
    get_or-map-range_with_len (entry_of es) 0 (length es) i i nobody low (omega arith))

-- they are the same entries if the positions are in another order
pub moved : (es : List Entry) (order : List ℕ) → IsPermutation (range_with_len 0 (length es)) order → IsPermutation es (entries_at es order)
moved es order p = subst (λ (xs : List Entry). IsPermutation xs (entries_at es order)) (all_entries es) (IsPermutation-map (entry_of es) _ _ p)

-- and their keys rise as those at the positions do
pub rising : (es : List Entry) (order : List ℕ) → IsSortedBy (λ p q. comes_before (entry_of es p) (entry_of es q)) order → IsSortedBy comes_before (entries_at es order)
rising es order sorted = λ k d low high.
    let long = length-map order (entry_of es) in
    let one = get_or-map (entry_of es) order k 0 d (omega (arith, high, long)) in
    let next = get_or-map (entry_of es) order (k + 1) 0 d (omega (arith, high, long)) in
    (λ i. comes_before (next i) (one i)) ∙ sorted k 0 low (omega (arith, high, long))

-- the entries from a place in the order on
pub left_at : (es : List Entry) (order : List ℕ) (next d : ℕ) → next < length order → entries_at es (drop next order) ≡ entry_of es (get_or order next d) ∷ entries_at es (drop (next + 1) order)
left_at es order next d low = rw add-one (ap (λ (ps : List ℕ). entries_at es ps) (drop-cons order next d low))
