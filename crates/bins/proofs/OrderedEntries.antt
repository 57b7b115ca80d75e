-- Entries in the order of positions.
use Rattle.std.proofs.Common.{◌≡◌, ℕ, zero, suc, ◌+◌, ◌<◌, List, [], ◌∷◌, ◌++◌, length, map, get_or, refl, sym, ap, subst, ◌∙◌, arith}
use Rattle.std.specs.List.{range_with_len}
use Rattle.std.specs.List.Sorted.{IsPermutation, IsSortedBy}
use Rattle.std.proofs.lemmas.List.{ext_get_or, length-map, get_or-map}
use Rattle.std.proofs.lemmas.List.FromFn.{length-map-range_with_len, get_or-map-range_with_len}
use Rattle.std.proofs.lemmas.List.Sorted.{IsPermutation-map}
use Rattle.bins.specs.Table.{Entry}
use Rattle.bins.specs.KeptRows.{string_at}
use Rattle.bins.specs.Copies.{comes_before, is_before, positions_of}
use Rattle.bins.specs.Entries.{entries_at, entries_in, entry_of}
use Rattle.bins.proofs.PairedEntries.{paired-length}

-- one more number
pub range_more : (a n j : ℕ) → a + n ≡ j → range_with_len a (n + 1) ≡ range_with_len a n ++ j ∷ []
range_more a zero j is = ap (λ (x : ℕ). x ∷ []) (omega (arith, is))
range_more a (suc n) j is = let on : suc n + 1 ≡ suc (n + 1) = omega arith in
    ap (range_with_len a) on ∙ ap (λ (xs : List ℕ). a ∷ xs) (range_more (a + 1) n j (omega (arith, is)))

pub paired-append : (ks vs : List (List ℕ)) → length ks ≡ length vs → (ms ws : List (List ℕ)) → entries_in (ks ++ ms) (vs ++ ws) ≡ entries_in ks vs ++ entries_in ms ws
paired-append [] [] same ms ws = refl
paired-append [] (w ∷ vs) same ms ws = absurd (omega (arith, same))
paired-append (k ∷ ks) [] same ms ws = absurd (omega (arith, same))
paired-append (k ∷ ks) (v ∷ vs) same ms ws = ap (λ (es : List Entry). (k, v) ∷ es) (paired-append ks vs (omega (arith, same)) ms ws)

-- an entry stands where its key and its value stand
pub paired-entry : (ks vs : List (List ℕ)) → length ks ≡ length vs → (p : ℕ) → entry_of (entries_in ks vs) p ≡ (string_at ks p, string_at vs p)
paired-entry [] [] same p = refl
paired-entry [] (w ∷ vs) same p = absurd (omega (arith, same))
paired-entry (k ∷ ks) [] same p = absurd (omega (arith, same))
paired-entry (k ∷ ks) (v ∷ vs) same zero = refl
paired-entry (k ∷ ks) (v ∷ vs) same (suc p) = paired-entry ks vs (omega (arith, same)) p

module _ (ks vs : List (List ℕ)) (same : length ks ≡ length vs) where
  abbrev es : List Entry
  es = entries_in ks vs

  abbrev nobody : Entry
  nobody = ([], [])

  -- all entries stand at all positions
  all_entries : entries_at es (positions_of ks) ≡ es
  all_entries = ext_get_or nobody _ _ (length-map-range_with_len (entry_of es) 0 (length ks) ∙ sym (paired-length ks vs same)) (λ i below.
      let lt : i < length ks = omega (arith, below, length-map-range_with_len (entry_of es) 0 (length ks)) in
      get_or-map-range_with_len (entry_of es) 0 (length ks) i i nobody lt (omega arith))

  -- they are the same entries if the positions are in another order
  pub moved : (order : List ℕ) → IsPermutation (positions_of ks) order → IsPermutation es (entries_at es order)
  moved order p = subst (λ (xs : List Entry). IsPermutation xs (entries_at es order)) all_entries (IsPermutation-map (entry_of es) _ _ p)

  -- and their keys rise as those at the positions do
  pub rising : (order : List ℕ) → IsSortedBy (is_before ks) order → IsSortedBy comes_before (entries_at es order)
  rising order sorted = λ k d low high.
      let long = length-map order (entry_of es) in
      let entry = λ (p : ℕ). paired-entry ks vs same p in
      let one = get_or-map (entry_of es) order k 0 d (omega (arith, high, long)) ∙ entry (get_or order k 0) in
      let next = get_or-map (entry_of es) order (k + 1) 0 d (omega (arith, high, long)) ∙ entry (get_or order (k + 1) 0) in
      (λ i. comes_before (next i) (one i)) ∙ sorted k 0 low (omega (arith, high, long))

-- the entries whose keys and values these are
pub entries_apart : (es : List Entry) → entries_in (map (λ (e : Entry). e.0) es) (map (λ (e : Entry). e.1) es) ≡ es
entries_apart [] = refl
entries_apart (e ∷ es) = ap (λ (xs : List Entry). e ∷ xs) (entries_apart es)
