-- The weight and the number of entries without a key twice, in a list and in the table that they make.
use Rattle.std.proofs.Common.{◌≡◌, ℕ, suc, ◌+◌, Bool, true, T, cond, List, [], ◌∷◌, length, Option, Some, None, Ordering, Less, Equal, Greater, is_eq, refl, sym, ap, ◌∙◌, arith}
use Rattle.std.specs.Prelude.{count_by, sum_by}
use Rattle.std.specs.FinMap as map
use Rattle.std.specs.FinMap.{find, put, is_sorted, from_sorted, from_entries, same_map, entries-insert, get-entries, get-from_entries, get-from_sorted, len-entries, len-empty}
use Rattle.std.specs.FinMap.Entries.{below_all}
use Rattle.std.proofs.lemmas.List.Sums.{sum_by-cons}
use Rattle.bins.specs.Table.{Entry, by_bytes}
use Rattle.bins.specs.Entries.{Distinct}
use Rattle.bins.proofs.SearchLemmas.{both_hold, is_less}
use Rattle.bins.proofs.MapEdits.{total, antisymmetric}

-- a key below all entries is not among them
find_below : (q : List ℕ) (es : List Entry) → T (below_all by_bytes q es) → find by_bytes q es ≡ None
find_below q [] h = refl
find_below q (e ∷ es) h = let is : by_bytes q e.0 ≡ Less = is_less _ (both_hold _ _ h).0 in rw is (find_below q es (both_hold _ _ h).1)

pub Distinct-sorted : (es : List Entry) → T (is_sorted by_bytes es) → Distinct es
Distinct-sorted [] h = tt
Distinct-sorted (e ∷ es) h = (find_below e.0 es (both_hold _ _ h).0, Distinct-sorted es (both_hold _ _ h).1)

-- sorted or not, entries make one table
pub from_entries-sorted : (es : List Entry) → T (is_sorted by_bytes es) → from_entries {R = by_bytes} es ≡ from_sorted es
from_entries-sorted es h = same_map total antisymmetric _ _ (λ q. get-from_entries total es q ∙ sym (get-from_sorted by_bytes es q h))

-- the weight of the entries, with one more entry of a new key
weighed_first : (a b n m : ℕ) → n ≡ b + m → a + n ≡ b + (a + m)
weighed_first a b n m is = omega (arith, is)

some_is_none : (e : List ℕ) (a : Option (List ℕ)) (r : Ordering) → r ≡ Equal → cond (is_eq r) (Some e) a ≡ None → ⊥
some_is_none e a Less same h = cc
some_is_none e a Equal same h = cc
some_is_none e a Greater same h = cc

put_weighed : (weight : Entry → ℕ) (k v : List ℕ) (e : Entry) (es : List Entry) (r : Ordering) → by_bytes k e.0 ≡ r → find by_bytes k (e ∷ es) ≡ None
    → (find by_bytes k es ≡ None → sum_by weight (put by_bytes k v es) ≡ sum_by weight ((k, v) ∷ es)) → sum_by weight (put by_bytes k v (e ∷ es)) ≡ sum_by weight ((k, v) ∷ e ∷ es)
put_weighed weight k v e es Less is none more = rw is refl
put_weighed weight k v e es Equal is none more = absurd (some_is_none e.1 _ _ is none)
put_weighed weight k v e es Greater is none more =
    let rest : find by_bytes k es ≡ None = rw is at none in
    let weighed : sum_by weight (put by_bytes k v es) ≡ sum_by weight ((k, v) ∷ es) = more rest in
    rw is (sum_by-cons weight e (put by_bytes k v es) ∙ weighed_first (weight e) (weight (k, v)) _ _ (weighed ∙ sum_by-cons weight (k, v) es) ∙ sym (sum_by-cons weight (k, v) (e ∷ es) ∙ ap (λ (n : ℕ). weight (k, v) + n) (sum_by-cons weight e es)))

sum_by-put : (weight : Entry → ℕ) (k v : List ℕ) (es : List Entry) → find by_bytes k es ≡ None → sum_by weight (put by_bytes k v es) ≡ sum_by weight ((k, v) ∷ es)
sum_by-put weight k v [] none = refl
sum_by-put weight k v (e ∷ es) none = put_weighed weight k v e es (by_bytes k e.0) refl none (sum_by-put weight k v es)

-- the table's entries are these entries, in another order
pub weighed_in_table : (weight : Entry → ℕ) (es : List Entry) → Distinct es → sum_by weight (map.entries (from_entries {R = by_bytes} es)) ≡ sum_by weight es
weighed_in_table weight [] h = ap (sum_by weight) (sym (no_entries _ (sym (len-entries map.empty) ∙ len-empty by_bytes (List ℕ))))
  where
    no_entries : (es : List Entry) → length es ≡ 0 → [] ≡ es
    no_entries [] e = refl
    no_entries (f ∷ fs) e = absurd (omega (arith, e))
weighed_in_table weight (e ∷ es) h =
    let none : find by_bytes e.0 (map.entries (from_entries {R = by_bytes} es)) ≡ None = sym (get-entries _ e.0) ∙ get-from_entries total es e.0 ∙ h.0 in
    ap (sum_by weight) (entries-insert total (from_entries es) e.0 e.1) ∙ sum_by-put weight e.0 e.1 (map.entries (from_entries es)) none
    ∙ sum_by-cons weight e (map.entries (from_entries es)) ∙ ap (λ (n : ℕ). weight e + n) (weighed_in_table weight es h.1) ∙ sym (sum_by-cons weight e es)

pub counted_in_table : (test : Entry → Bool) (es : List Entry) → Distinct es → count_by test (map.entries (from_entries {R = by_bytes} es)) ≡ count_by test es
counted_in_table test es h = weighed_in_table (λ e. cond (test e) 1 0) es h

-- all entries count
pub count_all : (es : List Entry) → count_by (λ (e : Entry). true) es ≡ length es
count_all [] = refl
count_all (e ∷ es) = sum_by-cons _ e es ∙ one_more (count_all es)
  where
    one_more : {n m : ℕ} → n ≡ m → 1 + n ≡ suc m
    one_more e = omega (arith, e)

pub len-table : (es : List Entry) → Distinct es → map.len (from_entries {R = by_bytes} es) ≡ length es
len-table es h = len-entries (from_entries es) ∙ sym (count_all (map.entries (from_entries es))) ∙ counted_in_table (λ (e : Entry). true) es h ∙ count_all es
