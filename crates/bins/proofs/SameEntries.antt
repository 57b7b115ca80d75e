-- If sorted entries weigh the same, however you weigh them, they are the same.
use Rattle.std.proofs.Common.{◌≡◌, ℕ, suc, ◌<◌, ◌≤◌, List, [], ◌∷◌, cond, Bool, true, false, get_or, length, sum_by, refl, sym, ap, ◌∙◌, subst, arith, T, ◌&&◌}
use Rattle.std.specs.declared.cmp.Ordering.{Ordering}
use Rattle.std.specs.declared.cmp.Ordering.TheVariants.{Less, Equal, Greater}
use Rattle.std.specs.Ordering.{is_eq, is_lt, ordering_reverse}
use Rattle.std.specs.Cmp.Lexicographic.{nat_list_cmp_total}
use Rattle.std.specs.FinMap.{is_sorted, slice_cmp-IsAntisymmetric, nat_cmp-IsAntisymmetric}
use Rattle.std.specs.FinMap.Entries.{below_all}
use Rattle.std.proofs.lemmas.Bool.{false≢true}
use Rattle.std.proofs.lemmas.Cmp.{tied_itself}
use Rattle.std.proofs.lemmas.List.Sums.{sum_by-cons}
use Rattle.bins.specs.Table.{Entry, by_bytes}
use Rattle.bins.specs.Copies.{WeighSame}

pub both : (a b : Bool) → T a → T b → T (a && b)
both true b p q = q
both false b p q = p

pub first : (a b : Bool) → T (a && b) → T a
first true b p = tt
first false b p = p

pub second : (a b : Bool) → T (a && b) → T b
second true b p = p
second false b p = absurd p

pub less_of : (r : Ordering) → T (is_lt r) → r ≡ Less
less_of Less h = refl
less_of Equal h = absurd h
less_of Greater h = absurd h

pub below_less : (x y : List ℕ) (es : List Entry) → by_bytes x y ≡ Less → T (below_all by_bytes y es) → T (below_all by_bytes x es)
below_less x y [] p h = tt
below_less x y (e ∷ es) p h = both _ _ (subst (λ r. T (is_lt r)) (sym (nat_list_cmp_total.trans x y e.0 p (less_of _ (first _ _ h)))) tt) (below_less x y es p (second _ _ h))

abbrev pub one_if : Ordering → ℕ
one_if r = cond (is_eq r) 1 0

-- 1 at the entries with this key
abbrev pub at_key : List ℕ → Entry → ℕ
at_key key e = one_if (by_bytes key e.0)

self : (x y : List ℕ) → by_bytes x y ≡ Equal → by_bytes x x ≡ Equal
self x y p = nat_list_cmp_total.congr x y x p ∙ nat_list_cmp_total.antisymm y x ∙ ap ordering_reverse p

twice : (e f : Entry) (es : List Entry) → by_bytes e.0 f.0 ≡ Equal → sum_by (at_key e.0) (e ∷ f ∷ es) ≤ 1 → ⊥
twice e f es p once =
    let one : at_key e.0 e ≡ 1 = ap (λ r. one_if r) (self e.0 f.0 p) in
    let two : at_key e.0 f ≡ 1 = ap (λ r. one_if r) p in
    let a = sum_by-cons (at_key e.0) e (f ∷ es) in
    let b = sum_by-cons (at_key e.0) f es in
    omega (arith, one, two, a, b)

-- entries in order, none twice, rise
pub rises : (es : List Entry) → ((k : ℕ) (d : Entry) → suc k < length es → is_lt (by_bytes (get_or es (suc k) d).0 (get_or es k d).0) ≡ false) → ((key : List ℕ) → sum_by (at_key key) es ≤ 1) → T (is_sorted by_bytes es)
rises [] near once = tt
rises (e ∷ []) near once = tt
rises (e ∷ f ∷ es) near once =
    let rest : T (is_sorted by_bytes (f ∷ es)) = rises (f ∷ es) (λ k d low. near (suc k) d (omega arith)) (λ key. let c = sum_by-cons (at_key key) e (f ∷ es) in let o = once key in omega (arith, c, o)) in
    let less : by_bytes e.0 f.0 ≡ Less =
    elim (by_bytes e.0 f.0) as (λ r. by_bytes e.0 f.0 ≡ r → r ≡ Less) [
      | Less ↦ λ p. refl
      | Equal ↦ λ p. absurd (twice e f es p (once e.0))
      | Greater ↦ λ p. absurd (false≢true (sym (near 0 e (omega arith)) ∙ ap is_lt (nat_list_cmp_total.antisymm f.0 e.0 ∙ ap ordering_reverse p)))
    ] refl in
    both _ _ (both _ _ (subst (λ r. T (is_lt r)) (sym less) tt) (below_less e.0 f.0 es less (first _ _ rest))) rest

pub above : (key x : List ℕ) (es : List Entry) → by_bytes key x ≡ Equal → T (below_all by_bytes x es) → sum_by (at_key key) es ≡ 0
above key x [] p h = refl
above key x (e ∷ es) p h =
    let rest = above key x es p (second _ _ h) in
    let here : at_key key e ≡ 0 = ap (λ r. one_if r) (nat_list_cmp_total.congr key x e.0 p ∙ less_of _ (first _ _ h)) in
    let c = sum_by-cons (at_key key) e es in
    omega (arith, rest, here, c)

-- in order it stands at most once
pub at_most_once : (key : List ℕ) (es : List Entry) → T (is_sorted by_bytes es) → sum_by (at_key key) es ≤ 1
at_most_once key [] h = omega arith
at_most_once key (e ∷ es) h =
    let c = sum_by-cons (at_key key) e es in
    let rest = at_most_once key es (second _ _ h) in
    elim (by_bytes key e.0) as (λ r. by_bytes key e.0 ≡ r → sum_by (at_key key) (e ∷ es) ≤ 1) [
      | Less ↦ λ p. let z : at_key key e ≡ 0 = ap (λ r. one_if r) p in omega (arith, c, rest, z)
      | Equal ↦ λ p. let z : at_key key e ≡ 1 = ap (λ r. one_if r) p in let none = above key e.0 es p (first _ _ h) in omega (arith, c, none, z)
      | Greater ↦ λ p. let z : at_key key e ≡ 0 = ap (λ r. one_if r) p in omega (arith, c, rest, z)
    ] refl

-- 1 at the entries with this key and this value
abbrev pub at_entry : Entry → Entry → ℕ
at_entry e x = cond (is_eq (by_bytes e.0 x.0)) (one_if (by_bytes e.1 x.1)) 0

pub at_itself : (e : Entry) → at_entry e e ≡ 1
at_itself e = ap (λ r. cond (is_eq r) (one_if (by_bytes e.1 e.1)) 0) (tied_itself nat_list_cmp_total e.0) ∙ ap (λ r. one_if r) (tied_itself nat_list_cmp_total e.1)

-- after a greater key the key doesn't stand
pub none_above : (key x : List ℕ) (es : List Entry) → by_bytes key x ≡ Less → T (below_all by_bytes x es) → sum_by (at_key key) es ≡ 0
none_above key x [] p h = refl
none_above key x (e ∷ es) p h =
    let rest = none_above key x es p (second _ _ h) in
    let here : at_key key e ≡ 0 = ap (λ r. one_if r) (nat_list_cmp_total.trans key x e.0 p (less_of _ (first _ _ h))) in
    let c = sum_by-cons (at_key key) e es in
    omega (arith, rest, here, c)

no_more : (b : Bool) (r : Ordering) → cond b (one_if r) 0 ≤ cond b 1 0
no_more true Less = omega arith
no_more true Equal = omega arith
no_more true Greater = omega arith
no_more false r = omega arith

-- an entry stands at most as often as its key
pub at_most_key : (e : Entry) (es : List Entry) → sum_by (at_entry e) es ≤ sum_by (at_key e.0) es
at_most_key e [] = omega arith
at_most_key e (x ∷ es) =
    let rest = at_most_key e es in
    let here : at_entry e x ≤ at_key e.0 x = no_more (is_eq (by_bytes e.0 x.0)) (by_bytes e.1 x.1) in
    let one = sum_by-cons (at_entry e) x es in
    let two = sum_by-cons (at_key e.0) x es in
    omega (arith, rest, here, one, two)

not_less : (e f : Entry) (es fs : List Entry) → T (is_sorted by_bytes (f ∷ fs)) → WeighSame (e ∷ es) (f ∷ fs) → by_bytes e.0 f.0 ≡ Less → ⊥
not_less e f es fs order same p =
    let one : at_key e.0 e ≡ 1 = ap (λ r. one_if r) (tied_itself nat_list_cmp_total e.0) in
    let none : at_key e.0 f ≡ 0 = ap (λ r. one_if r) p in
    let rest = none_above e.0 f.0 fs p (first _ _ order) in
    let had = sum_by-cons (at_key e.0) e es in
    let has = sum_by-cons (at_key e.0) f fs in
    let weighed = same (at_key e.0) in
    omega (arith, one, none, rest, had, has, weighed)

-- if the first keys tie, the first entry is there once, and so is the first of the other list
first_there : (e f : Entry) (es fs : List Entry) → T (is_sorted by_bytes (f ∷ fs)) → WeighSame (e ∷ es) (f ∷ fs) → by_bytes e.0 f.0 ≡ Equal → 1 ≤ one_if (by_bytes e.1 f.1)
first_there e f es fs order same p =
    let one = at_itself e in
    let rest = above e.0 f.0 fs p (first _ _ order) in
    let most = at_most_key e fs in
    let here : at_entry e f ≡ one_if (by_bytes e.1 f.1) = ap (λ r. cond (is_eq r) (one_if (by_bytes e.1 f.1)) 0) p in
    let had = sum_by-cons (at_entry e) e es in
    let has = sum_by-cons (at_entry e) f fs in
    let weighed = same (at_entry e) in
    omega (arith, one, rest, most, here, had, has, weighed)

pub tied_by_one : (x y : List ℕ) → 1 ≤ one_if (by_bytes x y) → x ≡ y
tied_by_one x y some = elim (by_bytes x y) as (λ r. by_bytes x y ≡ r → x ≡ y) [
  | Less ↦ λ p. let none : one_if (by_bytes x y) ≡ 0 = ap (λ r. one_if r) p in absurd (omega (arith, none, some))
  | Equal ↦ λ p. slice_cmp-IsAntisymmetric nat_cmp-IsAntisymmetric x y p
  | Greater ↦ λ p. let none : one_if (by_bytes x y) ≡ 0 = ap (λ r. one_if r) p in absurd (omega (arith, none, some))
] refl

first_same : (e f : Entry) (es fs : List Entry) → T (is_sorted by_bytes (e ∷ es)) → T (is_sorted by_bytes (f ∷ fs)) → WeighSame (e ∷ es) (f ∷ fs) → e ≡ f
first_same e f es fs order other same = elim (by_bytes e.0 f.0) as (λ r. by_bytes e.0 f.0 ≡ r → e ≡ f) [
  | Less ↦ λ p. absurd (not_less e f es fs other same p)
  | Equal ↦ λ p.
      let key = slice_cmp-IsAntisymmetric nat_cmp-IsAntisymmetric e.0 f.0 p in
      let value = tied_by_one e.1 f.1 (first_there e f es fs other same p) in
      λ i. (key i, value i)
  | Greater ↦ λ p. absurd (not_less f e fs es order (λ weight. sym (same weight)) (nat_list_cmp_total.antisymm f.0 e.0 ∙ ap ordering_reverse p))
] refl

pub same_entries : (es fs : List Entry) → T (is_sorted by_bytes es) → T (is_sorted by_bytes fs) → WeighSame es fs → es ≡ fs
same_entries [] [] order other same = refl
same_entries [] (f ∷ fs) order other same = absurd (let more = sum_by-cons (λ (x : Entry). 1) f fs in let weighed = same (λ x. 1) in omega (arith, more, weighed))
same_entries (e ∷ es) [] order other same = absurd (let more = sum_by-cons (λ (x : Entry). 1) e es in let weighed = same (λ x. 1) in omega (arith, more, weighed))
same_entries (e ∷ es) (f ∷ fs) order other same =
    let head = first_same e f es fs order other same in
    let tail = same_entries es fs (second _ _ order) (second _ _ other) (λ weight.
    let here = ap weight head in
    let had = sum_by-cons weight e es in
    let has = sum_by-cons weight f fs in
    let weighed = same weight in
    omega (arith, here, had, has, weighed)) in
    λ i. head i ∷ tail i
