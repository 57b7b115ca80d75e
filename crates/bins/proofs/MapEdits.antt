-- A table kept as sorted entries: how a read or an edit at a key's position reads or edits the table.
use Rattle.std.proofs.Common.{◌≡◌, ℕ, zero, suc, ◌<◌, ◌≤◌, Bool, true, false, T, cond, not, ◌&&◌, is_lt, List, [], ◌∷◌, length, get_or, set, Some, None, Result, Ok, Err, OnErr, Ordering, Less, Equal, Greater, is_eq, refl, sym, ap, subst, ◌∙◌}
use Rattle.std.specs.List.{insert, remove}
use Rattle.std.specs.Ordering.{eq_by_cmp}
use Rattle.std.specs.Cmp.{IsTotalOrder, eq_by_cmp_equiv, alike_right}
use Rattle.std.specs.Cmp.Lexicographic.{nat_list_cmp_total}
use Rattle.std.specs.FinMap as map
use Rattle.std.specs.FinMap.{IsAntisymmetric, nat_cmp-IsAntisymmetric, slice_cmp-IsAntisymmetric, find, put, is_sorted, from_sorted, same_map, same_entries_map, entries-insert, entries-from_sorted, get-remove, get-from_sorted, get_tied, empty_of_len, len-entries}
use Rattle.std.specs.FinMap.Entries.{below_all, where_key, is_sorted-put, is_sorted-where_key, find-where_key}
use Rattle.bins.specs.Table.{Entry, Table, by_bytes}
use Rattle.bins.specs.Positions.{IsAt, IsGapFor}
use Rattle.bins.proofs.SearchLemmas.{both_hold, together, find_found, put_found, without_found, find_gap, put_gap}

-- keys are ordered, and only equal keys tie
pub total : IsTotalOrder by_bytes
total = nat_list_cmp_total

pub antisymmetric : IsAntisymmetric by_bytes
antisymmetric = slice_cmp-IsAntisymmetric nat_cmp-IsAntisymmetric

-- a fact that holds anyway holds if there is an error
pub on_err_anyway : {A E P : Type 0} (r : Result A E) → P → OnErr r P
on_err_anyway (Ok _) p = tt
on_err_anyway (Err _) p = p

-- a test and its opposite
opposite : {A : Type 0} (b : Bool) (x y : A) → cond (not b) x y ≡ cond b y x
opposite true x y = refl
opposite false x y = refl

abbrev table_of : List Entry → Table
table_of es = from_sorted es

-- no entries make an empty table
pub table_of-none : (es : List Entry) → es ≡ [] → table_of es ≡ map.empty
table_of-none es none = ap table_of none ∙ empty_of_len (table_of []) (len-entries (table_of []) ∙ ap length (entries-from_sorted by_bytes [] tt))

absent_at : (m : Table) (k q : List ℕ) (r : Ordering) → map.get m k ≡ None → by_bytes q k ≡ r → cond (is_eq r) None (map.get m q) ≡ map.get m q
absent_at m k q Less none e = refl
absent_at m k q Equal none e = sym none ∙ get_tied total m q k e
absent_at m k q Greater none e = refl

-- if you remove a key that has no value, nothing changes
pub remove_absent : (m : Table) (k : List ℕ) → map.get m k ≡ None → map.remove m k ≡ m
remove_absent m k none = same_map total antisymmetric (map.remove m k) m (λ q. get-remove total m k q ∙ absent_at m k q (by_bytes q k) none refl)

-- if you replace a value the keys are the same, so they stay sorted
below_all-set : (x : List ℕ) (es : List Entry) (i : ℕ) (v : List ℕ) (d : Entry) → below_all by_bytes x (set es i ((get_or es i d).0, v)) ≡ below_all by_bytes x es
below_all-set x [] i v d = refl
below_all-set x (e ∷ es) zero v d = refl
below_all-set x (e ∷ es) (suc i) v d = ap (λ (b : Bool). is_lt (by_bytes x e.0) && b) (below_all-set x es i v d)

is_sorted-set : (es : List Entry) (i : ℕ) (v : List ℕ) (d : Entry) → is_sorted by_bytes (set es i ((get_or es i d).0, v)) ≡ is_sorted by_bytes es
is_sorted-set [] i v d = refl
is_sorted-set (e ∷ es) zero v d = refl
is_sorted-set (e ∷ es) (suc i) v d = ap (λ (b : Bool). b && is_sorted by_bytes (set es i ((get_or es i d).0, v))) (below_all-set e.0 es i v d) ∙ ap (λ (b : Bool). below_all by_bytes e.0 es && b) (is_sorted-set es i v d)

pub sorted_write : (es : List Entry) (i : ℕ) (e : Entry) (v : List ℕ) → T (is_sorted by_bytes es) → e ≡ get_or es i e → T (is_sorted by_bytes (set es i (e.0, v)))
sorted_write es i e v h is = subst T (sym (ap (λ (x : Entry). is_sorted by_bytes (set es i (x.0, v))) is ∙ is_sorted-set es i v e)) h

-- so do they if an entry is removed
below_all-remove : (x : List ℕ) (es : List Entry) (i : ℕ) → T (below_all by_bytes x es) → T (below_all by_bytes x (remove es i))
below_all-remove x [] zero h = tt
below_all-remove x [] (suc i) h = tt
below_all-remove x (e ∷ es) zero h = (both_hold _ _ h).1
below_all-remove x (e ∷ es) (suc i) h = together _ _ (both_hold _ _ h).0 (below_all-remove x es i (both_hold _ _ h).1)

pub sorted_remove : (es : List Entry) (i : ℕ) → T (is_sorted by_bytes es) → T (is_sorted by_bytes (remove es i))
sorted_remove [] zero h = tt
sorted_remove [] (suc i) h = tt
sorted_remove (e ∷ es) zero h = (both_hold _ _ h).1
sorted_remove (e ∷ es) (suc i) h = together _ _ (below_all-remove e.0 es i (both_hold _ _ h).0) (sorted_remove es i (both_hold _ _ h).1)

module _ (es : List Entry) (h : T (is_sorted by_bytes es)) (k : List ℕ) where
  sorted_put : (v : List ℕ) (new : List Entry) → put by_bytes k v es ≡ new → T (is_sorted by_bytes new)
  sorted_put v new e = subst (λ (xs : List Entry). T (is_sorted by_bytes xs)) e (is_sorted-put by_bytes total k v es h)

  -- entries with the key put among them are the table with the key inserted
  inserted : (v : List ℕ) (new : List Entry) → put by_bytes k v es ≡ new → table_of new ≡ map.insert (table_of es) k v
  inserted v new e = same_entries_map _ _ (entries-from_sorted by_bytes new (sorted_put v new e) ∙ sym e ∙ sym (entries-insert total (table_of es) k v ∙ ap (put by_bytes k v) (entries-from_sorted by_bytes es h)))

  abbrev other : List ℕ → Bool
  other q = not (eq_by_cmp by_bytes k q)

  sorted_without : (new : List Entry) → where_key by_bytes other es ≡ new → T (is_sorted by_bytes new)
  sorted_without new e = subst (λ (xs : List Entry). T (is_sorted by_bytes xs)) e (is_sorted-where_key by_bytes other es h)

  -- entries without the key are the table with the key removed
  removed : (new : List Entry) → where_key by_bytes other es ≡ new → table_of new ≡ map.remove (table_of es) k
  removed new e = same_map total antisymmetric _ _ (λ q. found q ∙ opposite (eq_by_cmp by_bytes k q) _ _ ∙ ap (λ b. cond b None (find by_bytes q es)) ((eq_by_cmp_equiv total).symm k q) ∙ sym (get-remove total (table_of es) k q ∙ ap (cond (eq_by_cmp by_bytes q k) None) (get-from_sorted by_bytes es q h)))
    where
      found : (q : List ℕ) → map.get (table_of new) q ≡ cond (other q) (find by_bytes q es) None
      found q = get-from_sorted by_bytes new q (sorted_without new e) ∙ ap (find by_bytes q) (sym e) ∙ find-where_key by_bytes other q (λ x t. ap (λ r. not (is_eq r)) (sym (alike_right total q x k t))) es

  module _ (i : ℕ) (lt : i < length es) (at : IsAt es k i) where
    -- at the key's position: the value is read, replaced, and removed
    pub get_at : (d : Entry) → map.get (table_of es) k ≡ Some (get_or es i d).1
    get_at d = get-from_sorted by_bytes es k h ∙ find_found total es i k d h lt at

    put_over : (e : Entry) (v : List ℕ) → e ≡ get_or es i e → put by_bytes k v es ≡ set es i (e.0, v)
    put_over e v is = put_found total es i k v e h lt at ∙ ap (λ (x : Entry). set es i (x.0, v)) (sym is)

    pub insert_at : (d : Entry) (v : List ℕ) → table_of (set es i ((get_or es i d).0, v)) ≡ map.insert (table_of es) k v
    insert_at d v = inserted v _ (put_found total es i k v d h lt at)

    pub insert_found : (e : Entry) (v : List ℕ) → e ≡ get_or es i e → table_of (set es i (e.0, v)) ≡ map.insert (table_of es) k v
    insert_found e v is = inserted v _ (put_over e v is)

    pub remove_found : table_of (remove es i) ≡ map.remove (table_of es) k
    remove_found = removed _ (without_found total es i k h lt at)

  module _ (i : ℕ) (le : i ≤ length es) (gap : IsGapFor es k i) where
    -- at the gap for the key: there is no value, and an entry is inserted
    pub get_gap : map.get (table_of es) k ≡ None
    get_gap = get-from_sorted by_bytes es k h ∙ find_gap total es i k le gap

    pub sorted_insert : (v : List ℕ) → T (is_sorted by_bytes (insert es i (k, v)))
    sorted_insert v = sorted_put v _ (put_gap total es i k v le gap)

    pub insert_gap : (v : List ℕ) → table_of (insert es i (k, v)) ≡ map.insert (table_of es) k v
    insert_gap v = inserted v _ (put_gap total es i k v le gap)
