-- The item with the least key.
use Rattle.std.proofs.Common.{◌≡◌, ℕ, ◌+◌, List, [], ◌∷◌, ◌++◌, cond, true, false, take, sum_by, refl, sym, ap, ◌∙◌, arith, T}
use Rattle.std.specs.declared.cmp.Ordering.{Ordering}
use Rattle.std.specs.declared.cmp.Ordering.TheVariants.{Less, Equal, Greater}
use Rattle.std.specs.Ordering.{is_lt}
use Rattle.std.specs.Cmp.Lexicographic.{nat_list_cmp_total}
use Rattle.std.specs.FinMap.{is_sorted}
use Rattle.std.proofs.lemmas.Bool.{false≢true}
use Rattle.std.proofs.lemmas.List.Sums.{sum_by-append, sum_by-cons}
use Rattle.bins.specs.Table.{Entry, by_bytes}
use Rattle.bins.proofs.SameEntries.{one_if}
use Rattle.bulk_walks.specs.Kept.{IsFirst, one_at}
use Rattle.bulk_walks.specs.Merges.{comes_first}
use Rattle.bulk_walks.proofs.MergeLemmas.{below_first, rest_of}

-- a function that weighs the entries of something
abbrev pub Weighing : Type 0
Weighing = (Entry → ℕ) → ℕ

lt_less : (r : Ordering) → is_lt r ≡ true → r ≡ Less
lt_less Less h = refl
lt_less Equal h = absurd (false≢true h)
lt_less Greater h = absurd (false≢true h)

not_at : (key : List ℕ) (e : Entry) → by_bytes key e.0 ≡ Less → one_at key e ≡ 0
not_at key e less = ap (λ r. one_if r) less

-- what weighs the same has the same first
pub first_same : (v w : Weighing) (es : List Entry) → ((h : Entry → ℕ) → w h ≡ v h) → IsFirst v es → IsFirst w es
first_same v w [] same first = λ h. same h ∙ first h
first_same v w (e ∷ []) same first = record { others = first.others; all = λ h. same h ∙ first.all h; least = first.least }
first_same v w (e ∷ f ∷ es) same first = absurd first

-- the first of both is the one that comes first
pub first_of_both : (v w : Weighing) (a b : List Entry) → IsFirst v a → IsFirst w b → IsFirst (λ h. v h + w h) (cond (comes_first b a) b a)
first_of_both v w [] [] p q = λ h. let x = p h in let y = q h in omega (arith, x, y)
first_of_both v w [] (f ∷ []) p q = record {
  others = λ h. q.others h + v h;
  all = λ h. let x = q.all h in omega (arith, x);
  least = λ key less. let x = q.least key less in let y = p (one_at key) in omega (arith, x, y);
}
first_of_both v w (e ∷ []) [] p q = record {
  others = λ h. p.others h + w h;
  all = λ h. let x = p.all h in omega (arith, x);
  least = λ key less. let x = p.least key less in let y = q (one_at key) in omega (arith, x, y);
}
first_of_both v w (e ∷ []) (f ∷ []) p q = elim (is_lt (by_bytes f.0 e.0)) as (λ b. is_lt (by_bytes f.0 e.0) ≡ b → IsFirst (λ h. v h + w h) (cond b (f ∷ []) (e ∷ []))) [
  | true ↦ λ is. record {
    others = λ h. q.others h + v h;
    all = λ h. let x = q.all h in omega (arith, x);
    least = λ key less.
        let under : by_bytes key e.0 ≡ Less = nat_list_cmp_total.trans key f.0 e.0 less (lt_less (by_bytes f.0 e.0) is) in
        let x = q.least key less in
        let y = p.all (one_at key) in
        let z = p.least key under in
        let none = not_at key e under in
        omega (arith, x, y, z, none);
  }
  | false ↦ λ is. record {
    others = λ h. p.others h + w h;
    all = λ h. let x = p.all h in omega (arith, x);
    least = λ key less.
        let under : by_bytes key f.0 ≡ Less = below_first key e f less is in
        let x = p.least key less in
        let y = q.all (one_at key) in
        let z = q.least key under in
        let none = not_at key f under in
        omega (arith, x, y, z, none);
  }
] refl
first_of_both v w (e ∷ g ∷ es) b p q = absurd p
first_of_both v w [] (f ∷ g ∷ es) p q = absurd q
first_of_both v w (e ∷ []) (f ∷ g ∷ es) p q = absurd q

-- a single entry
first_alone : (e : Entry) → IsFirst (λ h. h e) (e ∷ [])
first_alone e = record { others = λ h. 0; all = λ h. omega arith; least = λ key less. refl }

-- one more answer
pub first_more : (all items : List Entry) (e : Entry) → IsFirst (λ h. sum_by h all) items → IsFirst (λ h. sum_by h (all ++ e ∷ [])) (cond (comes_first (e ∷ []) items) (e ∷ []) items)
first_more all items e first =
    first_same (λ h. sum_by h all + h e) (λ h. sum_by h (all ++ e ∷ [])) (cond (comes_first (e ∷ []) items) (e ∷ []) items)
    (λ h. let a = sum_by-append h all (e ∷ []) in let b = sum_by-cons h e [] in omega (arith, a, b))
    (first_of_both (λ h. sum_by h all) (λ h. h e) items (e ∷ []) first (first_alone e))

nothing : (es : List Entry) → sum_by (λ _. 1) es ≡ 0 → es ≡ []
nothing [] none = refl
nothing (e ∷ es) none = absurd (let c = sum_by-cons (λ (x : Entry). 1) e es in omega (arith, none, c))

-- in key order it begins the list
pub first_is : (weigh : Weighing) (items whole : List Entry) → IsFirst weigh items → T (is_sorted by_bytes whole) → ((h : Entry → ℕ) → sum_by h whole ≡ weigh h) → items ≡ take 1 whole
first_is weigh [] whole first order has = sym (ap (λ (es : List Entry). take 1 es) (nothing whole (has (λ _. 1) ∙ first (λ _. 1))))
first_is weigh (e ∷ []) whole first order has =
    let rest = rest_of e first.others first.least whole order (λ h. has h ∙ first.all h) in
    sym (ap (λ (es : List Entry). take 1 es) rest.begins)
first_is weigh (e ∷ f ∷ es) whole first order has = absurd first
