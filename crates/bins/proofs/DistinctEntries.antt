-- Entries in any order, no key twice: what a search finds among them, and what is left after a write, a push and a removal.
use Rattle.std.proofs.Common.{◌≡◌, ◌≢◌, ℕ, zero, suc, ◌+◌, ◌-◌, ◌<◌, Bool, true, false, cond, List, [], ◌∷◌, ◌++◌, length, get_or, set, take, Some, None, Option, is_eq, refl, sym, ap, subst, ◌∙◌, arith, HoldsAt, ◌⊎◌, inl, inr}
use Rattle.std.specs.List.{AllWithin, swap_remove}
use Rattle.std.specs.Ordering.{eq_by_cmp}
use Rattle.std.specs.Cmp.{tied_itself, eq_by_cmp_equiv}
use Rattle.std.specs.FinMap as map
use Rattle.std.specs.FinMap.{find, from_entries, from_entries_push, same_map, get-from_entries, get-insert, get-remove}
use Rattle.std.specs.FinMap.Entries.{find-append}
use Rattle.std.proofs.lemmas.Bool.{cases_lt}
use Rattle.std.proofs.lemmas.List.{take_more, take_all, take-set-le, get_or-take, length-take-le}
use Rattle.bins.specs.Table.{Entry, Table, by_bytes}
use Rattle.bins.specs.Entries.{Distinct}
use Rattle.bins.proofs.SearchLemmas.{is_equal}
use Rattle.bins.proofs.MapEdits.{total, antisymmetric}

-- whether two keys are the same
abbrev pub same_key : List ℕ → List ℕ → Bool
same_key q k = eq_by_cmp by_bytes q k

pub same_itself : (k : List ℕ) → same_key k k ≡ true
same_itself k = ap is_eq (tied_itself total k)

pub turned : (x y : List ℕ) → same_key x y ≡ same_key y x
turned x y = (eq_by_cmp_equiv total).symm x y

pub alike : (x y : List ℕ) → same_key x y ≡ true → x ≡ y
alike x y e = antisymmetric x y (is_equal (by_bytes x y) e)

not_both : (b : Bool) → b ≡ true → b ≡ false → ⊥
not_both b t f = cc

pub differ : (x y : List ℕ) → x ≢ y → same_key x y ≡ false
differ x y other = by_test (same_key x y) refl
  where
    by_test : (b : Bool) → same_key x y ≡ b → same_key x y ≡ false
    by_test true e = absurd (other (alike x y e))
    by_test false e = e

-- an option that has a value, and one that has none
apart : {X : Type 0} (x : X) (o : Option X) → o ≡ Some x → o ≡ None → ⊥
apart x o some none = cc

-- both sides of a test that leads to none
pub none_after : {X : Type 0} (b : Bool) (x : X) (o : Option X) → cond b (Some x) o ≡ None → (b ≡ false) × (o ≡ None)
none_after true x o e = absurd cc
none_after false x o e = (refl, e)

pub none_by : {X : Type 0} (b : Bool) (x : X) (o : Option X) → b ≡ false → o ≡ None → cond b (Some x) o ≡ None
none_by true x o t e = absurd cc
none_by false x o t e = e

-- two tests may change positions if at most one of them holds
swapped : {X : Type 0} (a b : Bool) (x y z : X) → (a ≡ true → b ≡ true → ⊥) → cond a x (cond b y z) ≡ cond b y (cond a x z)
swapped true true x y z never = absurd (never refl refl)
swapped true false x y z never = refl
swapped false b x y z never = refl

-- a key is not two keys
not_two : (q x y : List ℕ) → same_key x y ≡ false → same_key q x ≡ true → same_key q y ≡ true → ⊥
not_two q x y other e f = not_both _ (ap (λ (k : List ℕ). same_key k y) (sym (alike q x e)) ∙ f) other

-- the entry at a position has the key
abbrev pub HasKey : List ℕ → List Entry → ℕ → Type 0
HasKey k es i = HoldsAt (λ e. e.0 ≡ k) es i

-- no entry has the key
abbrev pub Lacks : List ℕ → List Entry → Type 0
Lacks k es = AllWithin (λ e. e.0 ≢ k) es 0 (length es)

pub find_none : (es : List Entry) (k : List ℕ) → Lacks k es → find by_bytes k es ≡ None
find_none [] k h = refl
find_none (e ∷ es) k h =
    let other : same_key k e.0 ≡ false = differ k e.0 (λ s. h 0 e (omega arith) (omega arith) (sym s)) in
    rw other (find_none es k (λ j d low high. h (suc j) d (omega arith) (omega (arith, high))))

pub find_here : (es : List Entry) (i : ℕ) (k : List ℕ) (d : Entry) → Distinct es → i < length es → HasKey k es i → find by_bytes k es ≡ Some (get_or es i d).1
find_here [] i k d h lt at = absurd (omega (arith, lt))
find_here (e ∷ es) zero k d h lt at = let same : same_key k e.0 ≡ true = ap (same_key k) (at e) ∙ same_itself k in rw same refl
find_here (e ∷ es) (suc i) k d h lt at =
    let later = find_here es i k d h.1 (omega (arith, lt)) at in
    let other : same_key k e.0 ≡ false = differ k e.0 (λ s. apart _ _ later (ap (λ (x : List ℕ). find by_bytes x es) s ∙ h.0)) in
    rw other later

-- an entry is replaced by one with a key that no other entry has
none_over : (es : List Entry) (i : ℕ) (x : Entry) (q : List ℕ) → find by_bytes q es ≡ None → same_key q x.0 ≡ false → find by_bytes q (set es i x) ≡ None
none_over [] i x q none other = refl
none_over (e ∷ es) zero x q none other = none_by (same_key q x.0) x.1 _ other (none_after (same_key q e.0) e.1 _ none).1
none_over (e ∷ es) (suc i) x q none other =
    let rest = none_after (same_key q e.0) e.1 (find by_bytes q es) none in
    none_by (same_key q e.0) e.1 _ rest.0 (none_over es i x q rest.1 other)

Distinct-over : (es : List Entry) (i : ℕ) (x : Entry) → Distinct es → find by_bytes x.0 es ≡ None → Distinct (set es i x)
Distinct-over [] i x h none = h
Distinct-over (e ∷ es) zero x h none = ((none_after (same_key x.0 e.0) e.1 _ none).1, h.1)
Distinct-over (e ∷ es) (suc i) x h none =
    let rest = none_after (same_key x.0 e.0) e.1 (find by_bytes x.0 es) none in
    (none_over es i x e.0 h.0 (turned e.0 x.0 ∙ rest.0), Distinct-over es i x h.1 rest.1)

-- a test on a key that is not there
gone : (b : Bool) (o : Option (List ℕ)) → (b ≡ true → o ≡ None) → o ≡ cond b None o
gone true o none = none refl
gone false o none = refl

both_ways : {X : Type 0} (b : Bool) (x y z : X) → cond b x z ≡ cond b x (cond b y z)
both_ways true x y z = refl
both_ways false x y z = refl

find_over : (es : List Entry) (i : ℕ) (k : List ℕ) (x : Entry) (q : List ℕ) (d : Entry) → Distinct es → i < length es → HasKey k es i → find by_bytes x.0 es ≡ None
    → find by_bytes q (set es i x) ≡ cond (same_key q x.0) (Some x.1) (cond (same_key q k) None (find by_bytes q es))
find_over [] i k x q d h lt at none = absurd (omega (arith, lt))
find_over (e ∷ es) zero k x q d h lt at none =
    let here : e.0 ≡ k = at e in
    let rest : find by_bytes q es ≡ cond (same_key q e.0) None (find by_bytes q es) = gone (same_key q e.0) _ (λ s. ap (λ (y : List ℕ). find by_bytes y es) (alike q e.0 s) ∙ h.0) in
    ap (cond (same_key q x.0) (Some x.1)) (rest ∙ both_ways (same_key q e.0) None (Some e.1) (find by_bytes q es) ∙ ap (λ (y : List ℕ). cond (same_key q y) None (cond (same_key q e.0) (Some e.1) (find by_bytes q es))) here)
find_over (e ∷ es) (suc i) k x q d h lt at none =
    let rest = none_after (same_key x.0 e.0) e.1 (find by_bytes x.0 es) none in
    let later = find_here es i k d h.1 (omega (arith, lt)) at in
    let other : same_key k e.0 ≡ false = differ k e.0 (λ s. apart _ _ later (ap (λ (y : List ℕ). find by_bytes y es) s ∙ h.0)) in
    ap (cond (same_key q e.0) (Some e.1)) (find_over es i k x q d h.1 (omega (arith, lt)) at rest.1)
    ∙ swapped (same_key q e.0) (same_key q x.0) (Some e.1) (Some x.1) _ (λ a b. not_two q x.0 e.0 rest.0 b a)
    ∙ ap (cond (same_key q x.0) (Some x.1)) (swapped (same_key q e.0) (same_key q k) (Some e.1) None (find by_bytes q es) (λ a b. not_two q k e.0 other b a))

-- a new value with the same key
find_write : (es : List Entry) (i : ℕ) (k v q : List ℕ) (d : Entry) → Distinct es → i < length es → HasKey k es i
    → find by_bytes q (set es i ((get_or es i d).0, v)) ≡ cond (same_key q k) (Some v) (find by_bytes q es)
find_write [] i k v q d h lt at = absurd (omega (arith, lt))
find_write (e ∷ es) zero k v q d h lt at =
    both_ways (same_key q e.0) (Some v) (Some e.1) (find by_bytes q es)
    ∙ ap (λ (x : List ℕ). cond (same_key q x) (Some v) (cond (same_key q e.0) (Some e.1) (find by_bytes q es))) (at e)
find_write (e ∷ es) (suc i) k v q d h lt at =
    let later = find_here es i k d h.1 (omega (arith, lt)) at in
    let other : same_key k e.0 ≡ false = differ k e.0 (λ s. apart _ _ later (ap (λ (x : List ℕ). find by_bytes x es) s ∙ h.0)) in
    ap (cond (same_key q e.0) (Some e.1)) (find_write es i k v q d h.1 (omega (arith, lt)) at)
    ∙ swapped (same_key q e.0) (same_key q k) (Some e.1) (Some v) (find by_bytes q es) (λ a b. not_two q k e.0 other b a)

none_write : (es : List Entry) (i : ℕ) (x v : List ℕ) (d : Entry) → find by_bytes x es ≡ None → find by_bytes x (set es i ((get_or es i d).0, v)) ≡ None
none_write [] i x v d h = refl
none_write (e ∷ es) zero x v d h = let rest = none_after (same_key x e.0) e.1 _ h in none_by (same_key x e.0) v _ rest.0 rest.1
none_write (e ∷ es) (suc i) x v d h = let rest = none_after (same_key x e.0) e.1 _ h in none_by (same_key x e.0) e.1 _ rest.0 (none_write es i x v d rest.1)

Distinct-write : (es : List Entry) (i : ℕ) (v : List ℕ) (d : Entry) → Distinct es → Distinct (set es i ((get_or es i d).0, v))
Distinct-write [] i v d h = h
Distinct-write (e ∷ es) zero v d h = h
Distinct-write (e ∷ es) (suc i) v d h = (none_write es i e.0 v d h.0, Distinct-write es i v d h.1)

abbrev pub table_of : List Entry → Table
table_of es = from_entries es

pub get_here : (es : List Entry) (i : ℕ) (k : List ℕ) (d : Entry) → Distinct es → i < length es → HasKey k es i → map.get (table_of es) k ≡ Some (get_or es i d).1
get_here es i k d h lt at = get-from_entries total es k ∙ find_here es i k d h lt at

pub get_none : (es : List Entry) (k : List ℕ) → Lacks k es → map.get (table_of es) k ≡ None
get_none es k h = get-from_entries total es k ∙ find_none es k h

-- the value of the entry that was read is replaced
module _ (es : List Entry) (i : ℕ) (v : List ℕ) (x : Entry) (is : x ≡ get_or es i x) where
  pub written_distinct : Distinct es → Distinct (set es i (x.0, v))
  written_distinct h = subst (λ (e : Entry). Distinct (set es i (e.0, v))) (sym is) (Distinct-write es i v x h)

  pub written_table : (k : List ℕ) → Distinct es → i < length es → HasKey k es i → table_of (set es i (x.0, v)) ≡ map.insert (table_of es) k v
  written_table k h lt at =
      ap (λ (e : Entry). table_of (set es i (e.0, v))) is
      ∙ same_map total antisymmetric _ _ (λ q. get-from_entries total _ q ∙ find_write es i k v q x h lt at ∙ ap (cond (same_key q k) (Some v)) (sym (get-from_entries total es q)) ∙ sym (get-insert total (table_of es) k v q))

-- an entry with a new key goes to the end
module _ (es : List Entry) (k v : List ℕ) where
  pub pushed_table : Lacks k es → table_of (es ++ (k, v) ∷ []) ≡ map.insert (table_of es) k v
  pushed_table h = from_entries_push total antisymmetric es k v (find_none es k h)

Distinct-push : (es : List Entry) (k v : List ℕ) → Distinct es → find by_bytes k es ≡ None → Distinct (es ++ (k, v) ∷ [])
Distinct-push [] k v h none = (refl, tt)
Distinct-push (e ∷ es) k v h none =
    let rest = none_after (same_key k e.0) e.1 (find by_bytes k es) none in
    (find-append by_bytes total es k v e.0 rest.1 ∙ none_by (same_key e.0 k) v _ (turned e.0 k ∙ rest.0) h.0, Distinct-push es k v h.1 rest.1)

pub pushed_distinct : (es : List Entry) (k v : List ℕ) → Distinct es → Lacks k es → Distinct (es ++ (k, v) ∷ [])
pushed_distinct es k v h lacks = Distinct-push es k v h (find_none es k lacks)

-- the last entry is removed
Distinct-front : (es : List Entry) (x : Entry) → Distinct (es ++ x ∷ []) → Distinct es × (find by_bytes x.0 es ≡ None)
Distinct-front [] x h = (tt, refl)
Distinct-front (e ∷ es) x h =
    let rest = Distinct-front es x h.1 in
    let both = none_after (same_key e.0 x.0) x.1 (find by_bytes e.0 es) (sym (find-append by_bytes total es x.0 x.1 e.0 rest.1) ∙ h.0) in
    ((both.1, rest.0), none_by (same_key x.0 e.0) e.1 _ (turned x.0 e.0 ∙ both.0) rest.1)

take_over : {X : Type 0} (n : ℕ) (xs : List X) (i : ℕ) (x : X) → i < n → take n (set xs i x) ≡ set (take n xs) i x
take_over zero xs i x lt = absurd (omega (arith, lt))
take_over (suc n) [] i x lt = refl
take_over (suc n) (y ∷ ys) zero x lt = refl
take_over (suc n) (y ∷ ys) (suc i) x lt = ap (λ (zs : List _). y ∷ zs) (take_over n ys i x (omega (arith, lt)))

-- the rest at the front: the last entry goes to the position, or is the removed one
module _ (front : List Entry) (x : Entry) (k : List ℕ) (h : Distinct (front ++ x ∷ [])) where
  found_in : (q : List ℕ) → find by_bytes q (front ++ x ∷ []) ≡ cond (same_key q x.0) (Some x.1) (find by_bytes q front)
  found_in q = find-append by_bytes total front x.0 x.1 q (Distinct-front front x h).1

  removed_last : x.0 ≡ k → (q : List ℕ) → find by_bytes q front ≡ cond (same_key q k) None (find by_bytes q (front ++ x ∷ []))
  removed_last is q =
      gone (same_key q x.0) _ (λ s. ap (λ (y : List ℕ). find by_bytes y front) (alike q x.0 s) ∙ (Distinct-front front x h).1)
      ∙ both_ways (same_key q x.0) None (Some x.1) (find by_bytes q front)
      ∙ ap (λ (y : List ℕ). cond (same_key q y) None (cond (same_key q x.0) (Some x.1) (find by_bytes q front))) is
      ∙ ap (cond (same_key q k) None) (sym (found_in q))

  removed_inner : (i : ℕ) → i < length front → HasKey k front i → (q : List ℕ) → find by_bytes q (set front i x) ≡ cond (same_key q k) None (find by_bytes q (front ++ x ∷ []))
  removed_inner i lt at q =
      let halves = Distinct-front front x h in
      let there = find_here front i k x halves.0 lt at in
      let other : same_key x.0 k ≡ false = differ x.0 k (λ s. apart _ _ there (ap (λ (y : List ℕ). find by_bytes y front) (sym s) ∙ halves.1)) in
      find_over front i k x q x halves.0 lt at halves.1
      ∙ swapped (same_key q x.0) (same_key q k) (Some x.1) None (find by_bytes q front) (λ a b. not_two q x.0 k other a b)
      ∙ ap (cond (same_key q k) None) (sym (found_in q))

module _ (es : List Entry) (i : ℕ) (d : Entry) (k : List ℕ) (h : Distinct es) (lt : i < length es) (at : HasKey k es i) where
  abbrev end : ℕ
  end = length es - 1

  abbrev last : Entry
  last = get_or es end d

  abbrev front : List Entry
  front = take end es

  split : es ≡ front ++ last ∷ []
  split = sym (take_all (end + 1) es (omega (arith, lt))) ∙ take_more es end d (omega (arith, lt))

  split_distinct : Distinct (front ++ last ∷ [])
  split_distinct = subst Distinct split h

  abbrev left : List Entry
  left = swap_remove es i d

  -- the position is the last, or before it
  abbrev Case : Type 0
  Case = ((last.0 ≡ k) × (left ≡ front)) ⊎ ((i < length front) × HasKey k front i × (left ≡ set front i last))

  which : Case
  which = elim (cases_lt i end) [
    | inl lower ↦ inr (omega (arith, lower, length-take-le end es (omega arith)), λ e. ap (λ (x : Entry). x.0) (get_or-take end es i e lower) ∙ at e, take_over end es i last lower)
    | inr ge ↦ let same : end ≡ i = omega (arith, ge, lt) in inl (ap (λ (n : ℕ). (get_or es n d).0) same ∙ at d, take-set-le end es i last (omega (arith, ge)))
  ]

  left_distinct : Case → Distinct left
  left_distinct (inl c) = subst Distinct (sym c.1) (Distinct-front front last split_distinct).0
  left_distinct (inr c) = let halves = Distinct-front front last split_distinct in subst Distinct (sym c.2) (Distinct-over front i last halves.0 halves.1)

  left_find : Case → (q : List ℕ) → find by_bytes q left ≡ cond (same_key q k) None (find by_bytes q (front ++ last ∷ []))
  left_find (inl c) q = ap (find by_bytes q) c.1 ∙ removed_last front last k split_distinct c.0 q
  left_find (inr c) q = ap (find by_bytes q) c.2 ∙ removed_inner front last k split_distinct i c.0 c.1 q

  pub removed_distinct : Distinct (swap_remove es i d)
  removed_distinct = left_distinct which

  pub removed_table : table_of (swap_remove es i d) ≡ map.remove (table_of es) k
  removed_table = same_map total antisymmetric _ _ (λ q.
      get-from_entries total _ q ∙ left_find which q ∙ ap (λ (xs : List Entry). cond (same_key q k) None (find by_bytes q xs)) (sym split)
      ∙ ap (cond (same_key q k) None) (sym (get-from_entries total es q)) ∙ sym (get-remove total (table_of es) k q))
