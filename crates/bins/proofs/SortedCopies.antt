-- Copies of a table's entries, sorted by key.
use Rattle.std.proofs.Common.{◌≡◌, ℕ, suc, ◌<◌, ◌≤◌, List, Bool, false, get_or, length, sum_by, ◌∙◌, subst, arith, add-one}
use Rattle.std.specs.Prelude.{Result, Ok, Err, OnOk}
use Rattle.std.specs.Ordering.{is_lt}
use Rattle.std.specs.List.Sorted.{IsSortedBy, IsPermutation}
use Rattle.std.specs.FinMap as map
use Rattle.std.specs.FinMap.{entries_sorted}
use Rattle.std.proofs.lemmas.List.Sorted.{sum_by-IsPermutation}
use Rattle.bins.specs.Table.{Entry, Table, by_bytes}
use Rattle.bins.specs.Copies.{AreCopies}
use Rattle.bins.proofs.SameEntries.{at_key, rises, at_most_once, same_entries}

-- whether one key is smaller than the other
abbrev pub smaller : Entry → Entry → Bool
smaller x y = is_lt (by_bytes x.0 y.0)

near : (es : List Entry) → IsSortedBy smaller es → (k : ℕ) (d : Entry) → suc k < length es → is_lt (by_bytes (get_or es (suc k) d).0 (get_or es k d).0) ≡ false
near es sorted k d low = subst (λ m. smaller (get_or es m d) (get_or es k d) ≡ false) (add-one k) (sorted k d (omega arith) (omega (arith, low)))

-- in order, the copies are the table's entries
pub sorted_copies : (table : Table) (before after : List Entry) → AreCopies table before → IsPermutation before after → IsSortedBy smaller after → after ≡ map.entries table
sorted_copies table before after are moved sorted =
    let same : (weight : Entry → ℕ) → sum_by weight after ≡ sum_by weight (map.entries table) = λ weight. sum_by-IsPermutation weight before after moved ∙ are weight in
    let once : (key : List ℕ) → sum_by (at_key key) after ≤ 1 = λ key. (let most = at_most_once key (map.entries table) (entries_sorted table) in let is = same (at_key key) in omega (arith, most, is)) in
    same_entries after (map.entries table) (rises after (near after sorted) once) (entries_sorted table) same

-- if a call was answered, this follows from what it then ensures
pub on_ok_with : {A E : Type 0} {P Q : Type 0} (result : Result A E) → OnOk result P → (P → Q) → OnOk result Q
on_ok_with (Ok a) p f = f p
on_ok_with (Err e) p f = p
