-- Copies of a table's entries have each of them.
use Rattle.std.proofs.Common.{◌≡◌, ℕ, suc, ◌+◌, ◌<◌, Bool, true, false, cond, is_eq, List, [], ◌∷◌, length, sum_by, Option, Some, None, Ordering, Less, Equal, Greater, refl, sym, ap, subst, ◌∙◌, inl, inr, arith}
use Rattle.std.specs.Ordering.{eq_by_cmp}
use Rattle.std.specs.List.{Contains}
use Rattle.std.specs.FinMap as map
use Rattle.std.specs.FinMap.{find, get-entries}
use Rattle.std.proofs.lemmas.Bool.{cases_lt}
use Rattle.std.proofs.lemmas.List.Sums.{sum_by-cons}
use Rattle.bins.specs.Copies.{AddsCopies}
use Rattle.bins.specs.Entries.{entry_of}
use Rattle.bins.specs.Table.{Entry, Table, by_bytes}
use Rattle.bins.proofs.MapEdits.{antisymmetric}
use Rattle.timed_bins.proofs.RowLemmas.{itself}
use Rattle.timed_bins.specs.Agendas.{AreListed, AreRowsListed, Due, number_of}

-- 1 at the entry of this key and value
abbrev one_at : List ℕ → List ℕ → Entry → ℕ
one_at key value entry = cond (eq_by_cmp by_bytes entry.0 key) (cond (eq_by_cmp by_bytes entry.1 value) 1 0) 0

one_there : (key value : List ℕ) → one_at key value (key, value) ≡ 1
one_there key value = rw (itself key, itself value) refl

equal_by : (one other : List ℕ) (r : Ordering) → by_bytes one other ≡ r → is_eq r ≡ true → one ≡ other
equal_by one other Less is e = absurd cc
equal_by one other Equal is e = antisymmetric one other is
equal_by one other Greater is e = absurd cc

both_true : (a b : Bool) → 0 < cond a (cond b 1 0) 0 → (a ≡ true) × (b ≡ true)
both_true true true lt = (refl, refl)
both_true true false lt = absurd (omega (arith, lt))
both_true false b lt = absurd (omega (arith, lt))

is_it : (key value : List ℕ) (entry : Entry) → 0 < one_at key value entry → (entry.0 ≡ key) × (entry.1 ≡ value)
is_it key value entry lt =
    let tests = both_true (eq_by_cmp by_bytes entry.0 key) (eq_by_cmp by_bytes entry.1 value) lt in
    (equal_by entry.0 key (by_bytes entry.0 key) refl tests.0, equal_by entry.1 value (by_bytes entry.1 value) refl tests.1)

-- a list that weighs something has an entry that does
weighs : (weight : Entry → ℕ) (entries : List Entry) → 0 < sum_by weight entries
    → (k : ℕ) × ((k < length entries) × (0 < weight (entry_of entries k)))
weighs weight [] lt = absurd (omega (arith, lt))
weighs weight (entry ∷ entries) lt =
    let sum = sum_by-cons weight entry entries in
    elim (cases_lt 0 (weight entry)) [
      | inl here ↦ (0, (omega arith, here))
      | inr none ↦
          let rest = weighs weight entries (omega (arith, lt, sum, none)) in
          (suc rest.0, (omega (arith, rest.1.0), rest.1.1))
    ]

-- an entry that is found weighs
found_weighs : (key value : List ℕ) (entries : List Entry) → find by_bytes key entries ≡ Some value → 0 < sum_by (one_at key value) entries
found_weighs key value [] e = absurd cc
found_weighs key value (entry ∷ entries) e = by_order (by_bytes key entry.0) refl (found_weighs key value entries) e
  where
    sum : sum_by (one_at key value) (entry ∷ entries) ≡ one_at key value entry + sum_by (one_at key value) entries
    sum = sum_by-cons (one_at key value) entry entries

    unwrapped : Option (List ℕ) → List ℕ
    unwrapped (Some bytes) = bytes
    unwrapped None = []

    by : (r : Ordering) → by_bytes key entry.0 ≡ r → find by_bytes key (entry ∷ entries) ≡ Some value
        → cond (is_eq r) (Some entry.1) (find by_bytes key entries) ≡ Some value
    by r is e = sym (ap (λ (o : Ordering). cond (is_eq o) (Some entry.1) (find by_bytes key entries)) is) ∙ e

    by_order : (r : Ordering) → by_bytes key entry.0 ≡ r → (find by_bytes key entries ≡ Some value → 0 < sum_by (one_at key value) entries)
        → find by_bytes key (entry ∷ entries) ≡ Some value → 0 < sum_by (one_at key value) (entry ∷ entries)
    by_order Less is more e = let rest = more (by Less is e) in omega (arith, sum, rest)
    by_order Greater is more e = let rest = more (by Greater is e) in omega (arith, sum, rest)
    by_order Equal is more e =
        let keys : key ≡ entry.0 = antisymmetric key entry.0 is in
        let values : entry.1 ≡ value = ap unwrapped (by Equal is e) in
        let one : one_at key value entry ≡ 1 = subst (λ (there : Entry). one_at key value there ≡ 1) (λ i. (keys i, sym values i)) (one_there key value) in
        omega (arith, sum, one)

-- all deadlines are listed if those of copies of their rows are
pub copies_listed : (times : Table) (rows : List Entry) (listed : List Due) → AddsCopies times [] rows → AreRowsListed rows (length rows) listed → AreListed times listed
copies_listed times rows listed copies are key bytes there =
    let found = sym (get-entries times key) ∙ there in
    let weight = found_weighs key bytes (map.entries times) found in
    let same : sum_by (one_at key bytes) rows ≡ sum_by (one_at key bytes) (map.entries times) = ap (sum_by (one_at key bytes)) copies.added ∙ copies.are (one_at key bytes) in
    let place = weighs (one_at key bytes) rows (omega (arith, weight, same)) in
    let entry = is_it key bytes (entry_of rows place.0) place.1.1 in
    subst (λ (due : Due). Contains listed due) (λ i. (number_of (entry.1 i), entry.0 i)) (are place.0 place.1.0)
