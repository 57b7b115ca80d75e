-- A heap of deadlines: what is added, what goes, and that the top is the soonest.
use Rattle.std.proofs.Common.{◌≡◌, ℕ, ◌≤◌, false, List, [], ◌∷◌, length, Option, Some, None, Ordering, Less, Equal, Greater, is_lt, refl, ap, subst, ◌∙◌, arith, slice_index_or, IfSome, IfNone, inl, inr}
use Rattle.std.specs.declared.cmp.Reverse.{Reverse}
use Rattle.std.specs.List.{All}
use Rattle.std.specs.List.Sorted.{IsPermutation}
use Rattle.std.specs.BinaryHeap.{IsUpperBound}
use Rattle.std.specs.Ordering.{nat_cmp, ordering_then}
use Rattle.std.specs.Cmp.{nat_cmp_is}
use Rattle.std.proofs.lemmas.Bool.{cases_lt}
use Rattle.std.proofs.lemmas.List.Elements.{All-nil, All-cons}
use Rattle.std.proofs.lemmas.List.Sorted.{IsPermutation-map}
use Rattle.timed_bins.specs.Agendas.{Due}
use Rattle.timed_bins.specs.Heaps.{dues_in, later_first}

abbrev Item : Type 0
Item = Reverse ℕ × List ℕ

abbrev due_in : Item → Due
due_in item = (item.0.0, item.1)

-- other places of a heap have other places of deadlines
pub dues_moved : (xs ys : List Item) → IsPermutation xs ys → IsPermutation (dues_in xs) (dues_in ys)
dues_moved xs ys moved = IsPermutation-map due_in xs ys moved

-- what comes first decides unless it is `Equal`
first_not_lt : (a b : Ordering) → is_lt (ordering_then a b) ≡ false → is_lt a ≡ false
first_not_lt Less b e = e
first_not_lt Equal b e = refl
first_not_lt Greater b e = e

no_less : (x y : ℕ) → is_lt (nat_cmp y x) ≡ false → x ≤ y
no_less x y e = elim (cases_lt y x) [
  | inl less ↦ absurd (let same = nat_cmp_is y x Less less in let as_less = ap is_lt same in cc)
  | inr ge ↦ ge
]

-- no deadline is sooner than one that no other comes before
pub soonest : (x : Item) (xs : List Item) → IsUpperBound later_first x xs → All {X = Due} (λ other. x.0.0 ≤ other.0) (dues_in xs)
soonest x [] h = All-nil (λ (other : Due). x.0.0 ≤ other.0)
soonest x (y ∷ ys) h =
    All-cons (λ (other : Due). x.0.0 ≤ other.0) (due_in y) (dues_in ys) (no_less x.0.0 y.0.0 (first_not_lt _ _ h.0)) (soonest x ys h.1)

-- what is left after the top went
pub popped : (old new : List Item) (result : Option Item) → IfNone result (length old ≡ 0) → IfSome result (λ x. x ≡ slice_index_or old 0 x)
    → IfSome result (λ x. IsPermutation old (x ∷ new))
    → (due : Due) (rest : List Due) → dues_in old ≡ due ∷ rest → IsPermutation (dues_in old) (due ∷ dues_in new)
popped [] new result none top moved due rest e = absurd cc
popped (x ∷ xs) new None none top moved due rest e = absurd (omega (arith, none))
popped (x ∷ xs) new (Some y) none top moved due rest e =
    let is : due_in y ≡ due = ap due_in top ∙ ap (λ (l : List Due). slice_index_or l 0 due) e in
    subst (λ (first : Due). IsPermutation (dues_in (x ∷ xs)) (first ∷ dues_in new)) is (dues_moved _ _ moved)
