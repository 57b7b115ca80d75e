-- Entries sorted by key: what a search finds among them, and how an edit at that position changes the map.
use Rattle.std.proofs.Common.{◌≡◌, ℕ, zero, suc, ◌<◌, ◌≤◌, Bool, true, false, T, ◌&&◌, not, List, [], ◌∷◌, length, get_or, set, Some, None, Result, Ok, Err, IfOk, IfErr, Ordering, Less, Equal, Greater, is_eq, is_lt, refl, sym, ap, ◌∙◌, arith, inl, inr, HoldsAt}
use Rattle.std.specs.List.{insert, remove}
use Rattle.std.specs.List.Sorted.{IsNonDecreasingBy, IsPartitionPoint, IsSearchInRange, IsBinarySearchResult}
use Rattle.std.specs.Ordering.{ordering_index, ordering_reverse, eq_by_cmp}
use Rattle.std.specs.Cmp.{IsTotalOrder, alike_right, tied_back}
use Rattle.std.specs.FinMap.{find, put, is_sorted}
use Rattle.std.specs.FinMap.Entries.{where_key, below_all}
use Rattle.std.proofs.lemmas.Bool.{cases_lt}

-- if two tests hold together, each holds
pub both_hold : (a b : Bool) → T (a && b) → T a × T b
both_hold true b h = (tt, h)
both_hold false b h = absurd h

-- and the converse
pub together : (a b : Bool) → T a → T b → T (a && b)
together true b p q = q
together false b p q = absurd p

-- the outcome of a comparison, by the test of it
pub is_less : (r : Ordering) → T (is_lt r) → r ≡ Less
is_less Less h = refl
is_less Equal h = absurd h
is_less Greater h = absurd h

pub is_equal : (r : Ordering) → is_eq r ≡ true → r ≡ Equal
is_equal Less h = cc
is_equal Equal h = refl
is_equal Greater h = cc

index_small : (r : Ordering) → ordering_index r ≤ 2
index_small Less = omega arith
index_small Equal = omega arith
index_small Greater = omega arith

module _ {K : Type 0} {R : K → K → Ordering} (o : IsTotalOrder R) where
  -- a comparison with its sides exchanged
  turned_less : (x y : K) → R x y ≡ Less → R y x ≡ Greater
  turned_less x y h = o.antisymm y x ∙ ap ordering_reverse h

  turned_greater : (x y : K) → R x y ≡ Greater → R y x ≡ Less
  turned_greater x y h = o.antisymm y x ∙ ap ordering_reverse h

  -- of two keys, the smaller compares no higher with a third
  compares_lower : (a b k : K) (r : Ordering) → R a b ≡ Less → R b k ≡ r → ordering_index (R a k) ≤ ordering_index r
  compares_lower a b k Less h e = let is = o.trans a b k h e in rw is (omega arith)
  compares_lower a b k Equal h e = let is : R a k ≡ Less = sym (alike_right o b k a e) ∙ h in rw is (omega arith)
  compares_lower a b k Greater h e = index_small (R a k)

module _ {K X : Type 0} {R : K → K → Ordering} (o : IsTotalOrder R) where
  -- a key below all entries is below each
  below_at : (x : K) (es : List (K × X)) (i : ℕ) (d : K × X) → T (below_all R x es) → i < length es → R x (get_or es i d).0 ≡ Less
  below_at x [] i d h lt = absurd (omega (arith, lt))
  below_at x (e ∷ es) zero d h lt = is_less _ (both_hold _ _ h).0
  below_at x (e ∷ es) (suc i) d h lt = below_at x es i d (both_hold _ _ h).1 (omega (arith, lt))

  -- the keys rise
  keys_rise : (es : List (K × X)) (i j : ℕ) (d : K × X) → T (is_sorted R es) → i < j → j < length es → R (get_or es i d).0 (get_or es j d).0 ≡ Less
  keys_rise [] i j d h lt in_range = absurd (omega (arith, in_range))
  keys_rise (e ∷ es) zero zero d h lt in_range = absurd (omega (arith, lt))
  keys_rise (e ∷ es) zero (suc j) d h lt in_range = below_at e.0 es j d (both_hold _ _ h).0 (omega (arith, in_range))
  keys_rise (e ∷ es) (suc i) zero d h lt in_range = absurd (omega (arith, lt))
  keys_rise (e ∷ es) (suc i) (suc j) d h lt in_range = keys_rise es i j d (both_hold _ _ h).1 (omega (arith, lt)) (omega (arith, in_range))

  -- so do the outcomes of their comparison with one key, as a search that halves the list asks
  comparisons_rise : (es : List (K × X)) (k : K) → T (is_sorted R es) → IsNonDecreasingBy (λ e. ordering_index (R e.0 k)) es
  comparisons_rise es k h i j d le in_range = elim (cases_lt i j) [
    | inl lt ↦ compares_lower o _ _ k _ (keys_rise es i j d h lt in_range) refl
    | inr ge ↦ let same : i ≡ j = omega (arith, le, ge) in let at = ap (λ (n : ℕ). ordering_index (R (get_or es n d).0 k)) same in omega (arith, at)
  ]

  -- a search by comparison ends at the key, or at the gap for it
  pub searched : (es : List (K × X)) (k : K) → T (is_sorted R es) → (r : Result ℕ ℕ) → IsSearchInRange r (length es) → IsBinarySearchResult (λ e. R e.0 k) es r
      → record {
        bound : IsSearchInRange r (length es);
        found : IfOk r (HoldsAt (λ e. R e.0 k ≡ Equal) es);
        absent : IfErr r (IsPartitionPoint (λ e. R e.0 k ≡ Less) (λ e. R e.0 k ≡ Greater) es);
      }
  searched es k h (Ok i) in_range is = record { bound = in_range; found = is; absent = tt }
  searched es k h (Err i) in_range is = record { bound = in_range; found = tt; absent = is (comparisons_rise es k h) }

  -- an entry before the one that has the key is smaller
  before_found : (e : K × X) (es : List (K × X)) (i : ℕ) (k : K) → T (is_sorted R (e ∷ es)) → i < length es → HoldsAt (λ x. R x.0 k ≡ Equal) es i → R k e.0 ≡ Greater
  before_found e es i k h lt found = turned_less o e.0 k (sym (alike_right o _ k e.0 (found e)) ∙ below_at e.0 es i e (both_hold _ _ h).0 lt)

  -- a position that has the key, or has smaller keys before it and greater ones from it on, counted without the first entry
  after_first : (e : K × X) (es : List (K × X)) (i : ℕ) (k : K) → IsPartitionPoint (λ x. R x.0 k ≡ Less) (λ x. R x.0 k ≡ Greater) (e ∷ es) (suc i) → IsPartitionPoint (λ x. R x.0 k ≡ Less) (λ x. R x.0 k ≡ Greater) es i
  after_first e es i k gap = (λ j d low high. gap.0 (suc j) d (omega arith) (omega (arith, high)), λ j d low high. gap.1 (suc j) d (omega (arith, low)) (omega (arith, high)))

  -- the entry at the key's position has the key's value
  pub find_found : (es : List (K × X)) (i : ℕ) (k : K) (d : K × X) → T (is_sorted R es) → i < length es → HoldsAt (λ x. R x.0 k ≡ Equal) es i → find R k es ≡ Some (get_or es i d).1
  find_found [] i k d h lt found = absurd (omega (arith, lt))
  find_found (e ∷ es) zero k d h lt found = let is = tied_back o e.0 k (found e) in rw is refl
  find_found (e ∷ es) (suc i) k d h lt found = let is = before_found e es i k h (omega (arith, lt)) found in rw is (find_found es i k d (both_hold _ _ h).1 (omega (arith, lt)) found)

  -- if you replace its value, you put the value
  pub put_found : (es : List (K × X)) (i : ℕ) (k : K) (v : X) (d : K × X) → T (is_sorted R es) → i < length es → HoldsAt (λ x. R x.0 k ≡ Equal) es i → put R k v es ≡ set es i ((get_or es i d).0, v)
  put_found [] i k v d h lt found = absurd (omega (arith, lt))
  put_found (e ∷ es) zero k v d h lt found = let is = tied_back o e.0 k (found e) in rw is refl
  put_found (e ∷ es) (suc i) k v d h lt found = let is = before_found e es i k h (omega (arith, lt)) found in rw is (ap (λ (xs : List (K × X)). e ∷ xs) (put_found es i k v d (both_hold _ _ h).1 (omega (arith, lt)) found))

  -- all entries are above a key that is below all
  without_none : (es : List (K × X)) (x k : K) → R k x ≡ Equal → T (below_all R x es) → where_key R (λ y. not (eq_by_cmp R k y)) es ≡ es
  without_none [] x k same h = refl
  without_none (e ∷ es) x k same h =
      let is : R k e.0 ≡ Less = o.congr k x e.0 same ∙ is_less _ (both_hold _ _ h).0 in
      rw is (ap (λ (xs : List (K × X)). e ∷ xs) (without_none es x k same (both_hold _ _ h).1))

  -- if you remove it, you keep the entries of the other keys
  pub without_found : (es : List (K × X)) (i : ℕ) (k : K) → T (is_sorted R es) → i < length es → HoldsAt (λ x. R x.0 k ≡ Equal) es i → where_key R (λ y. not (eq_by_cmp R k y)) es ≡ remove es i
  without_found [] i k h lt found = absurd (omega (arith, lt))
  without_found (e ∷ es) zero k h lt found = let is = tied_back o e.0 k (found e) in rw is (without_none es e.0 k is (both_hold _ _ h).0)
  without_found (e ∷ es) (suc i) k h lt found = let is = before_found e es i k h (omega (arith, lt)) found in rw is (ap (λ (xs : List (K × X)). e ∷ xs) (without_found es i k (both_hold _ _ h).1 (omega (arith, lt)) found))

  -- a key that has a gap has no value
  pub find_gap : (es : List (K × X)) (i : ℕ) (k : K) → i ≤ length es → IsPartitionPoint (λ x. R x.0 k ≡ Less) (λ x. R x.0 k ≡ Greater) es i → find R k es ≡ None
  find_gap [] i k le gap = refl
  find_gap (e ∷ es) zero k le gap =
      let is = turned_greater o e.0 k (gap.1 0 e (omega arith) (omega arith)) in
      rw is (find_gap es 0 k (omega arith) (λ j d low high. absurd (omega (arith, high)), λ j d low high. gap.1 (suc j) d (omega arith) (omega (arith, high))))
  find_gap (e ∷ es) (suc i) k le gap =
      let is = turned_less o e.0 k (gap.0 0 e (omega arith) (omega arith)) in
      rw is (find_gap es i k (omega (arith, le)) (after_first e es i k gap))

  -- if you insert an entry in its gap, you put it
  pub put_gap : (es : List (K × X)) (i : ℕ) (k : K) (v : X) → i ≤ length es → IsPartitionPoint (λ x. R x.0 k ≡ Less) (λ x. R x.0 k ≡ Greater) es i → put R k v es ≡ insert es i (k, v)
  put_gap [] zero k v le gap = refl
  put_gap [] (suc i) k v le gap = absurd (omega (arith, le))
  put_gap (e ∷ es) zero k v le gap = let is = turned_greater o e.0 k (gap.1 0 e (omega arith) (omega arith)) in rw is refl
  put_gap (e ∷ es) (suc i) k v le gap =
      let is = turned_less o e.0 k (gap.0 0 e (omega arith) (omega arith)) in
      rw is (ap (λ (xs : List (K × X)). e ∷ xs) (put_gap es i k v (omega (arith, le)) (after_first e es i k gap)))
