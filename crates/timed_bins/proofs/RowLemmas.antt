-- Rows of a table by their keys, after one is entered or removed.
use Rattle.std.proofs.Common.{◌≡◌, ◌≢◌, ℕ, Bool, true, false, cond, is_eq, List, [], length, arith, Option, Some, None, Ordering, Less, Equal, Greater, refl, sym, ap, subst, ◌∙◌, ◌⊎◌, inl, inr}
use Rattle.std.specs.Ordering.{eq_by_cmp}
use Rattle.std.specs.Cmp.{tied_itself}
use Rattle.std.specs.List.{Contains}
use Rattle.std.specs.FinMap as map
use Rattle.std.specs.FinMap.{get-insert, get-remove, get-empty, empty_of_len, len-entries, same_map}
use Rattle.std.specs.Prelude.{option_map}
use Rattle.bins.specs.Table.{Table, by_bytes}
use Rattle.bins.proofs.MapEdits.{total, antisymmetric}
use Rattle.timed_bins.specs.Agendas.{AreListed, Due, SetsDeadline, number_of, deadline_of}

-- a test of two keys: yes at the same key, no at another
pub itself : (key : List ℕ) → eq_by_cmp by_bytes key key ≡ true
itself key = ap is_eq (tied_itself total key)

differ : (one other : List ℕ) (r : Ordering) → by_bytes one other ≡ r → one ≢ other → is_eq r ≡ false
differ one other Less e apart = refl
differ one other Equal e apart = absurd (apart (antisymmetric one other e))
differ one other Greater e apart = refl

apart : (one other : List ℕ) → one ≢ other → eq_by_cmp by_bytes one other ≡ false
apart one other h = differ one other (by_bytes one other) refl h

some_same : {A : Type 0} {x y : A} → Some x ≡ Some y → x ≡ y
some_same {A} {x} {y} e = ap (unwrapped x) e
  where
    unwrapped : A → Option A → A
    unwrapped d (Some z) = z
    unwrapped d None = d

chosen : {A : Type 0} (b : Bool) (x y : A) → b ≡ true → cond b x y ≡ x
chosen b x y e = rw e refl

skipped : {A : Type 0} (b : Bool) (x y : A) → b ≡ false → cond b x y ≡ y
skipped b x y e = rw e refl

-- an empty table has no row
pub empty_at : (key : List ℕ) → ◌≡◌ {A = Option (List ℕ)} (map.get {R = by_bytes} map.empty key) None
empty_at key = get-empty by_bytes key

-- there is no row in an empty table
pub row_somewhere : (key row : List ℕ) → ◌≡◌ {A = Option (List ℕ)} (map.get {R = by_bytes} map.empty key) (Some row) → ⊥
row_somewhere key row there = let none = empty_at key in cc

module _ (table : Table) (key : List ℕ) where
  -- at the key
  pub entered : (value : List ℕ) → map.get (map.insert table key value) key ≡ Some value
  entered value = get-insert total table key value key ∙ chosen _ (Some value) (map.get table key) (itself key)

  pub gone : map.get (map.remove table key) key ≡ None
  gone = get-remove total table key key ∙ chosen _ None (map.get table key) (itself key)

  -- at another key
  pub beside_entered : (value other : List ℕ) → other ≢ key → map.get (map.insert table key value) other ≡ map.get table other
  beside_entered value other h = get-insert total table key value other ∙ skipped _ (Some value) (map.get table other) (apart other key h)

  pub beside_gone : (other : List ℕ) → other ≢ key → map.get (map.remove table key) other ≡ map.get table other
  beside_gone other h = get-remove total table key other ∙ skipped _ None (map.get table other) (apart other key h)

  -- a key that is absent after an entry was absent before
  absent_in : (b : Bool) (value : List ℕ) (old : Option (List ℕ)) → cond b (Some value) old ≡ None → old ≡ None
  absent_in true value old e = absurd cc
  absent_in false value old e = e

  pub absent_before : (value other : List ℕ) → map.get (map.insert table key value) other ≡ None → map.get table other ≡ None
  absent_before value other e = absent_in (eq_by_cmp by_bytes other key) value _ (sym (get-insert total table key value other) ∙ e)

  -- a row that is there after a removal was there before
  kept_in : (b : Bool) (value : List ℕ) (old : Option (List ℕ)) → cond b None old ≡ Some value → old ≡ Some value
  kept_in true value old e = absurd cc
  kept_in false value old e = e

  pub kept_before : (value other : List ℕ) → map.get (map.remove table key) other ≡ Some value → map.get table other ≡ Some value
  kept_before value other e = kept_in (eq_by_cmp by_bytes other key) value _ (sym (get-remove total table key other) ∙ e)

  -- a row that is there after an entry is the one entered or was there before
  pub entered_or : (value row other : List ℕ) → map.get (map.insert table key value) other ≡ Some row
      → ((other ≡ key) × (row ≡ value)) ⊎ (map.get table other ≡ Some row)
  entered_or value row other e = by_order (by_bytes other key) refl (sym (get-insert total table key value other) ∙ e)
    where
      by_order : (r : Ordering) → by_bytes other key ≡ r → cond (is_eq (by_bytes other key)) (Some value) (map.get table other) ≡ Some row
          → ((other ≡ key) × (row ≡ value)) ⊎ (map.get table other ≡ Some row)
      by_order Less is e = inr (rw is at e)
      by_order Equal is e = inl (antisymmetric other key is, sym (some_same (rw is at e)))
      by_order Greater is e = inr (rw is at e)

  -- the deadline is set, or removed
  pub sets : (value : List ℕ) → SetsDeadline table (map.insert table key value) key (Some (number_of value))
  sets value = record {
    here = ap (option_map number_of) (entered value);
    others = λ other h. beside_entered value other h;
  }

  pub clears : SetsDeadline table (map.remove table key) key None
  clears = record {
    here = ap (option_map number_of) gone;
    others = λ other h. beside_gone other h;
  }

-- nothing changes
pub sets_nothing : (table : Table) (key : List ℕ) (deadline : Option ℕ) → deadline_of table key ≡ deadline → SetsDeadline table table key deadline
sets_nothing table key deadline is = record { here = is; others = λ other h. refl }

-- no entries are an empty table
pub none_left : (table : Table) → length (map.entries table) ≡ 0 → table ≡ map.empty
none_left table none = empty_of_len table (len-entries table ∙ none)

-- a row with this deadline's bytes was entered
pub sets_to : (old new : Table) (key bytes : List ℕ) (at : ℕ) → new ≡ map.insert old key bytes → number_of bytes ≡ at → SetsDeadline old new key (Some at)
sets_to old new key bytes at is same = rw (is, ← same) (sets old key bytes)

-- the key's row was removed
pub clears_to : (old new : Table) (key : List ℕ) → new ≡ map.remove old key → SetsDeadline old new key None
clears_to old new key is = rw is (clears old key)

-- no key has a deadline in an empty table
pub none_in_empty : (key : List ℕ) → None ≡ deadline_of map.empty key
none_in_empty key = sym (ap (option_map number_of) (empty_at key))

-- a key without a row has no deadline, and a key with none has no row
pub no_row : (row : Option (List ℕ)) → option_map number_of row ≡ None → row ≡ None
no_row (Some row) e = absurd cc
no_row None e = refl

-- there is nothing to list
pub none_listed : (listed : List Due) → AreListed map.empty listed
none_listed listed key bytes there = absurd (let none = empty_at key in cc)

-- what was listed stays so where rows went
pub listed_still : (old new : Table) (key : List ℕ) (listed : List Due) → new ≡ map.remove old key → AreListed old listed → AreListed new listed
listed_still old new key listed is are other row there = are other row (kept_before old key row other (sym (ap (λ (t : Table). map.get t other) is) ∙ there))

-- the row that was entered is listed too
pub listed_too : (old new : Table) (key bytes : List ℕ) (at : ℕ) (listed : List Due) → new ≡ map.insert old key bytes → number_of bytes ≡ at
    → Contains listed (at, key) → AreListed old listed → AreListed new listed
listed_too old new key bytes at listed is same has are other row there =
    elim (entered_or old key bytes row other (sym (ap (λ (t : Table). map.get t other) is) ∙ there)) [
      | inl both ↦ subst (λ (due : Due). Contains listed due) (λ i. ((sym same ∙ ap number_of (sym both.1)) i, sym both.0 i)) has
      | inr before ↦ are other row before
    ]

-- a table that is empty has nothing to list
pub empty_listed : (times : Table) (listed : List Due) → times ≡ map.empty → AreListed times listed
empty_listed times listed is = rw is (none_listed listed)

-- if nothing is listed there are no rows
pub none_without : (times : Table) (listed : List Due) → AreListed times listed → listed ≡ [] → times ≡ map.empty
none_without times listed are none = same_map total antisymmetric times map.empty (λ key. by_row key (map.get times key) refl ∙ sym (empty_at key))
  where
    nowhere : (due : Due) → Contains {X = Due} [] due → ⊥
    nowhere due (k, lt, e) = absurd (omega (arith, lt))

    by_row : (key : List ℕ) (row : Option (List ℕ)) → map.get times key ≡ row → row ≡ None
    by_row key (Some row) is = absurd (nowhere (number_of row, key) (subst (λ (xs : List Due). Contains xs (number_of row, key)) none (are key row is)))
    by_row key None is = refl

pub none_in : (times : Table) (key : List ℕ) → times ≡ map.empty → None ≡ deadline_of times key
none_in times key is = rw is (none_in_empty key)
