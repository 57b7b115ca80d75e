-- Two lists of entries, one after the other, without a repeated key.
use Rattle.std.proofs.Common.{◌≡◌, ℕ, Bool, true, false, cond, List, [], ◌∷◌, ◌++◌, Option, Some, None, refl, ap, ◌∙◌}
use Rattle.std.specs.Ordering.{eq_by_cmp}
use Rattle.std.specs.Cmp.{tied_itself}
use Rattle.std.specs.FinMap.{find}
use Rattle.bins.specs.Table.{Entry, by_bytes}
use Rattle.bins.specs.Entries.{Distinct}
use Rattle.bins.proofs.MapEdits.{total}

-- the first that exists
abbrev pub first_some : Option (List ℕ) → Option (List ℕ) → Option (List ℕ)
first_some (Some value) other = Some value
first_some None other = other

either_way : (b : Bool) (x : List ℕ) (y z : Option (List ℕ)) → cond b (Some x) (first_some y z) ≡ first_some (cond b (Some x) y) z
either_way true x y z = refl
either_way false x y z = refl

-- a key is searched in the first list, then in the second
pub find-append : (q : List ℕ) (es fs : List Entry) → find by_bytes q (es ++ fs) ≡ first_some (find by_bytes q es) (find by_bytes q fs)
find-append q [] fs = refl
find-append q (e ∷ es) fs = ap (cond (eq_by_cmp by_bytes q e.0) (Some e.1)) (find-append q es fs) ∙ either_way (eq_by_cmp by_bytes q e.0) e.1 (find by_bytes q es) (find by_bytes q fs)

pub none_of_both : (x y : Option (List ℕ)) → x ≡ None → y ≡ None → first_some x y ≡ None
none_of_both x y e f = rw e f

-- two lists without a common key
pub Distinct-append : (es fs : List Entry) → Distinct es → Distinct fs → ((q v : List ℕ) → find by_bytes q es ≡ Some v → find by_bytes q fs ≡ None) → Distinct (es ++ fs)
Distinct-append [] fs h k apart = k
Distinct-append (e ∷ es) fs h k apart =
    let itself : find by_bytes e.0 (e ∷ es) ≡ Some e.1 = let same = tied_itself total e.0 in rw same refl in
    (find-append e.0 es fs ∙ none_of_both _ _ h.0 (apart e.0 e.1 itself), Distinct-append es fs h.1 k (λ q v found. later q v found (eq_by_cmp by_bytes q e.0) refl))
  where
    later : (q v : List ℕ) → find by_bytes q es ≡ Some v → (b : Bool) → eq_by_cmp by_bytes q e.0 ≡ b → find by_bytes q fs ≡ None
    later q v found true same = apart q e.1 (rw same refl)
    later q v found false other = apart q v (rw other found)
