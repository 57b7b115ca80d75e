-- The merge of lists in key order, an entry at a time.
use Rattle.std.proofs.Common.{◌≡◌, ◌≢◌, ℕ, ◌+◌, ◌^◌, ◌<◌, ◌≤◌, List, [], ◌∷◌, ◌++◌, map, cond, true, false, All, get_or, set, append_assoc, length, length-set, inl, inr, take, sum_by, refl, sym, ap, ◌∙◌, subst, arith, T}
use Rattle.std.specs.declared.cmp.Ordering.TheVariants.{Less, Equal, Greater}
use Rattle.std.specs.Ordering.{is_eq, is_lt, ordering_reverse}
use Rattle.std.specs.Cmp.{IsStrictWeakOrder}
use Rattle.std.specs.Cmp.Lexicographic.{nat_list_cmp_total}
use Rattle.std.specs.FinMap.{is_sorted, slice_cmp-IsAntisymmetric, nat_cmp-IsAntisymmetric}
use Rattle.std.proofs.lemmas.Cmp.{tied_itself}
use Rattle.std.proofs.lemmas.Bool.{false≢true, cases_eq}
use Rattle.std.proofs.lemmas.List.{get_or-set_same, get_or-set_other, get_or_default, get_or-map, set-get_or, map-set, length-map, append-nil, take_all}
use Rattle.std.proofs.Math.Seq.{take-append_seam}
use Rattle.std.proofs.lemmas.List.MinMax.{ranks_by}
use Rattle.std.proofs.lemmas.List.Elements.{All-from_get_or}
use Rattle.std.proofs.lemmas.List.Sums.{sum_by-cons, sum_by-le, sum_by-set}
use Rattle.bins.specs.Entries.{entry_of}
use Rattle.bins.specs.Merged.{entry_at}
use Rattle.bins.specs.Fronts.{front, AreBytes}
use Rattle.bins.proofs.FrontLemmas.{by_front}
use Rattle.bins.specs.Table.{Entry, by_bytes}
use Rattle.bulk_walks.specs.declared.answers.Answers.{Answers}
use Rattle.bulk_walks.specs.Kept.{kept_of, kept_in, lists_of_all}
use Rattle.bulk_walks.specs.Merges.{Remains, HasAll, comes_first, lead_of, lefts_of, left_of, lists_of, whole_of, TakesFirst}
use Rattle.bins.proofs.SameEntries.{one_if, at_key, first, second, above, at_entry, at_itself, none_above, at_most_key, tied_by_one}

-- the order of lists by their first keys
ranks : IsStrictWeakOrder (λ (x y : Entry). is_lt (by_bytes x.0 y.0))
ranks = ranks_by nat_list_cmp_total (λ (e : Entry). e.0)

-- lists that have a first entry are compared by its key
pub comes_first-by_key : (xs ys : List Entry) → length xs ≢ 0 → length ys ≢ 0 → comes_first xs ys ≡ is_lt (by_bytes (entry_of xs 0).0 (entry_of ys 0).0)
comes_first-by_key [] ys some more = absurd (some refl)
comes_first-by_key (x ∷ xs) [] some more = absurd (more refl)
comes_first-by_key (x ∷ xs) (y ∷ ys) some more = refl

pub comes_first-over : (xs ys : List Entry) → length xs ≡ 0 → comes_first xs ys ≡ false
comes_first-over [] ys none = refl
comes_first-over (x ∷ xs) ys none = absurd (omega (arith, none))

pub comes_first-before_none : (xs ys : List Entry) → length xs ≢ 0 → length ys ≡ 0 → comes_first xs ys ≡ true
comes_first-before_none [] ys some none = absurd (some refl)
comes_first-before_none (x ∷ xs) [] some none = refl
comes_first-before_none (x ∷ xs) (y ∷ ys) some none = absurd (omega (arith, none))

pub comes_first-one_way : (xs ys : List Entry) → comes_first xs ys ≡ true → comes_first ys xs ≡ false
comes_first-one_way [] ys h = absurd (false≢true h)
comes_first-one_way (x ∷ xs) [] h = refl
comes_first-one_way (x ∷ xs) (y ∷ ys) h = ranks.one_way x y h

-- a lead is a number of 64 bits
pub lead_fits : (xs : List Entry) → AreBytes (entry_of xs 0).0 → lead_of xs < 2 ^ 64
lead_fits [] bytes = omega arith
lead_fits (x ∷ xs) bytes = omega (arith, bytes 0, bytes 1, bytes 2, bytes 3, bytes 4, bytes 5, bytes 6, bytes 7)

-- no list comes before one with a lesser lead
pub comes_first-by_lead : (xs ys : List Entry) → AreBytes (entry_of ys 0).0 → lead_of xs < lead_of ys → comes_first ys xs ≡ false
comes_first-by_lead xs [] bytes less = refl
comes_first-by_lead [] (y ∷ ys) bytes less = absurd (let fits = lead_fits (y ∷ ys) bytes in omega (arith, less, fits))
comes_first-by_lead (x ∷ xs) (y ∷ ys) bytes less = ranks.one_way x y (ap is_lt (by_front 8 x.0 y.0 bytes less))

-- a key with a lesser lead comes first
pub comes_first-of_lead : (x : Entry) (ys : List Entry) → AreBytes (entry_of ys 0).0 → front 8 x.0 < lead_of ys → comes_first (x ∷ []) ys ≡ true
comes_first-of_lead x [] bytes less = refl
comes_first-of_lead x (y ∷ ys) bytes less = ap is_lt (by_front 8 x.0 y.0 bytes less)

pub comes_first-chain : (xs ys zs : List Entry) → comes_first xs ys ≡ false → comes_first ys zs ≡ false → comes_first xs zs ≡ false
comes_first-chain [] ys zs h k = refl
comes_first-chain (x ∷ xs) [] zs h k = absurd (false≢true (sym h))
comes_first-chain (x ∷ xs) (y ∷ ys) [] h k = absurd (false≢true (sym k))
comes_first-chain (x ∷ xs) (y ∷ ys) (z ∷ zs) h k = ranks.chain x y z h k

pub comes_first-itself : (xs : List Entry) → comes_first xs xs ≡ false
comes_first-itself [] = refl
comes_first-itself (x ∷ xs) = ap is_lt (tied_itself nat_list_cmp_total x.0)

-- a key below the first one, and so below all that follow
pub below_first : (key : List ℕ) (e x : Entry) → by_bytes key e.0 ≡ Less → is_lt (by_bytes x.0 e.0) ≡ false → by_bytes key x.0 ≡ Less
below_first key e x p h = elim (by_bytes x.0 e.0) as (λ r. by_bytes x.0 e.0 ≡ r → by_bytes key x.0 ≡ Less) [
  | Less ↦ λ q. absurd (false≢true (sym h ∙ ap is_lt q))
  | Equal ↦ λ q. nat_list_cmp_total.antisymm key x.0 ∙ ap ordering_reverse (nat_list_cmp_total.congr x.0 e.0 key q) ∙ sym (nat_list_cmp_total.antisymm key e.0) ∙ p
  | Greater ↦ λ q. nat_list_cmp_total.trans key e.0 x.0 p (nat_list_cmp_total.antisymm e.0 x.0 ∙ ap ordering_reverse q)
] refl

none_before : (key : List ℕ) (e : Entry) (behind es : List Entry) → by_bytes key e.0 ≡ Less → comes_first es (e ∷ behind) ≡ false → T (is_sorted by_bytes es) → sum_by (at_key key) es ≡ 0
none_before key e behind [] p h sorted = refl
none_before key e behind (x ∷ es) p h sorted =
    let less = below_first key e x p h in
    let here : at_key key x ≡ 0 = ap (λ r. one_if r) less in
    let rest = none_above key x.0 es less (first _ _ sorted) in
    let c = sum_by-cons (at_key key) x es in
    omega (arith, here, rest, c)

-- a list in key order that begins as others do: an entry, with no lesser key after it
module _ (e : Entry) (behind : (Entry → ℕ) → ℕ) (least : (key : List ℕ) → by_bytes key e.0 ≡ Less → behind (at_key key) ≡ 0) where
  -- the rest of it
  pub record Rest (all : List Entry) : Type 0 where
    pub tail : List Entry
    pub begins : all ≡ e ∷ tail
    pub order : T (is_sorted by_bytes tail)
    pub same : (weight : Entry → ℕ) → sum_by weight tail ≡ behind weight

  greatest : (m : Entry) (ms : List Entry) → T (is_sorted by_bytes (m ∷ ms)) → ((weight : Entry → ℕ) → sum_by weight (m ∷ ms) ≡ weight e + behind weight) → e ≡ m
  greatest m ms sorted same = elim (by_bytes e.0 m.0) as (λ r. by_bytes e.0 m.0 ≡ r → e ≡ m) [
    | Less ↦ λ p.
        let one : at_key e.0 e ≡ 1 = ap (λ r. one_if r) (tied_itself nat_list_cmp_total e.0) in
        let none : at_key e.0 m ≡ 0 = ap (λ r. one_if r) p in
        let rest = none_above e.0 m.0 ms p (first _ _ sorted) in
        let c = sum_by-cons (at_key e.0) m ms in
        let w = same (at_key e.0) in
        absurd (omega (arith, one, none, rest, c, w))
    | Equal ↦ λ p.
        let key = slice_cmp-IsAntisymmetric nat_cmp-IsAntisymmetric e.0 m.0 p in
        let one = at_itself e in
        let rest = above e.0 m.0 ms p (first _ _ sorted) in
        let most = at_most_key e ms in
        let here : at_entry e m ≡ one_if (by_bytes e.1 m.1) = ap (λ r. cond (is_eq r) (one_if (by_bytes e.1 m.1)) 0) p in
        let c = sum_by-cons (at_entry e) m ms in
        let w = same (at_entry e) in
        let value = tied_by_one e.1 m.1 (omega (arith, one, rest, most, here, c, w)) in
        λ i. (key i, value i)
    | Greater ↦ λ p.
        let less : by_bytes m.0 e.0 ≡ Less = nat_list_cmp_total.antisymm m.0 e.0 ∙ ap ordering_reverse p in
        let one : at_key m.0 m ≡ 1 = ap (λ r. one_if r) (tied_itself nat_list_cmp_total m.0) in
        let none : at_key m.0 e ≡ 0 = ap (λ r. one_if r) less in
        let rest = least m.0 less in
        let c = sum_by-cons (at_key m.0) m ms in
        let w = same (at_key m.0) in
        absurd (omega (arith, one, none, rest, c, w))
  ] refl

  pub rest_of : (all : List Entry) → T (is_sorted by_bytes all) → ((weight : Entry → ℕ) → sum_by weight all ≡ weight e + behind weight) → Rest all
  rest_of [] sorted same = absurd (let w = same (λ x. 1) in omega (arith, w))
  rest_of (m ∷ ms) sorted same =
      let is = greatest m ms sorted same in
      record {
        tail = ms;
        begins = ap (λ (x : Entry). x ∷ ms) (sym is);
        order = second _ _ sorted;
        same = λ weight. let w = same weight in let c = sum_by-cons weight m ms in let h = ap weight is in omega (arith, w, c, h);
      }

abbrev weigh : (Entry → ℕ) → List (List Entry) → ℕ
weigh weight lists = sum_by (λ es. sum_by weight es) lists

-- the least of all first entries
module _ (old new : List (List Entry)) (e : Entry) (takes : TakesFirst old e new) (sorted : All (λ es. T (is_sorted by_bytes es)) old) where
  pub weighs : (weight : Entry → ℕ) → weigh weight old ≡ weight e + weigh weight new
  weighs weight =
      let f : List Entry → ℕ = λ es. sum_by weight es in
      let m = sum_by-set f old takes.position takes.behind [] takes.inside in
      let n = ap (λ (lists : List (List Entry)). sum_by f lists) takes.now in
      let w = ap f takes.was in
      let c = sum_by-cons weight e takes.behind in
      omega (arith, m, n, w, c)

  order_left : T (is_sorted by_bytes (e ∷ takes.behind))
  order_left = subst (λ (es : List Entry). T (is_sorted by_bytes es)) takes.was (sorted takes.position [] takes.inside)

  pub still_sorted : All (λ es. T (is_sorted by_bytes es)) new
  still_sorted = subst (λ (lists : List (List Entry)). All (λ es. T (is_sorted by_bytes es)) lists) (sym takes.now)
      (All-from_get_or (λ (es : List Entry). T (is_sorted by_bytes es)) (set old takes.position takes.behind) [] (λ i low. elim (cases_eq i takes.position) [
        | inl e ↦ subst (λ m. T (is_sorted by_bytes (get_or (set old takes.position takes.behind) m []))) (sym e)
            (subst (λ (es : List Entry). T (is_sorted by_bytes es)) (sym (get_or-set_same old takes.position takes.behind [] takes.inside)) (second _ _ order_left))
        | inr ne ↦ subst (λ (es : List Entry). T (is_sorted by_bytes es)) (sym (get_or-set_other old takes.position i takes.behind [] ne))
            (sorted i [] (let l = length-set old takes.position takes.behind in omega (arith, low, l)))
      ]))

  pub nothing_less : (key : List ℕ) → by_bytes key e.0 ≡ Less → weigh (at_key key) new ≡ 0
  nothing_less key p =
      let most = sum_by-le (λ es. sum_by (at_key key) es) 0 old (λ i d low. let z = none_before key e takes.behind (get_or old i d) p (takes.least i d low) (sorted i d low) in omega (arith, z)) in
      let w = weighs (at_key key) in
      omega (arith, most, w)

  pub goes_on : (all : List Entry) → T (is_sorted by_bytes all) → HasAll all old → Rest e (λ weight. weigh weight new) nothing_less all
  goes_on all order has = rest_of e (λ weight. weigh weight new) nothing_less all order (λ weight. has weight ∙ weighs weight)

-- the taken items begin the whole list, and the rest of it has what the lists still have
pub record Left (items : List Entry) (rests : List (List Entry)) (all : List Entry) : Type 0 where
  pub tail : List Entry
  pub begins : all ≡ items ++ tail
  pub order : T (is_sorted by_bytes tail)
  pub has : HasAll tail rests

pub left_all : (all : List Entry) (lists : List (List Entry)) → T (is_sorted by_bytes all) → HasAll all lists → Left [] lists all
left_all all lists order has = record { tail = all; begins = refl; order = order; has = has }

-- one more item
pub left_less : (items : List Entry) (old new : List (List Entry)) (e : Entry) (all : List Entry) → TakesFirst old e new → All (λ es. T (is_sorted by_bytes es)) old → Left items old all → Left (items ++ e ∷ []) new all
left_less items old new e all takes sorted left =
    let rest = goes_on old new e takes sorted left.tail left.order left.has in
    record {
      tail = rest.tail;
      begins = left.begins ∙ ap (λ (es : List Entry). items ++ es) rest.begins ∙ sym (append_assoc items (e ∷ []) rest.tail);
      order = rest.order;
      has = rest.same;
    }

-- if nothing is left, the items are the whole list
pub left_none : (items : List Entry) (rests : List (List Entry)) (all : List Entry) (most : ℕ) → Left items rests all → All (λ es. es ≡ []) rests → length items ≤ most → items ≡ take most all
left_none items rests all most left empty many =
    let none = sum_by-le (λ es. sum_by (λ _. 1) es) 0 rests (λ i d low. let z = ap (λ (es : List Entry). sum_by (λ _. 1) es) (empty i d low) in omega (arith, z)) in
    let weighs = left.has (λ _. 1) in
    let gone = nothing left.tail (omega (arith, none, weighs)) in
    let whole : all ≡ items = left.begins ∙ ap (λ (es : List Entry). items ++ es) gone ∙ append-nil items in
    sym (ap (take most) whole ∙ take_all most items many)
  where
    nothing : (es : List Entry) → sum_by (λ _. 1) es ≡ 0 → es ≡ []
    nothing [] z = refl
    nothing (x ∷ es) z = absurd (let c = sum_by-cons (λ (y : Entry). 1) x es in omega (arith, c, z))

-- if there are as many items as are wanted, they are the first of it
pub left_enough : (items : List Entry) (rests : List (List Entry)) (all : List Entry) (most : ℕ) → Left items rests all → length items ≡ most → items ≡ take most all
left_enough items rests all most left many = sym (ap (take most) left.begins ∙ ap (λ n. take n (items ++ left.tail)) (sym many) ∙ take-append_seam items left.tail)

-- no list comes before the one at the position
abbrev pub IsLeast : List (List Entry) → ℕ → Type 0
IsLeast rests position = All (λ rest. comes_first rest (get_or rests position rest) ≡ false) rests

module _ (rests : List (List Entry)) (position : ℕ) (inside : position < length rests) (least : IsLeast rests position) where
  least_at : (list : List Entry) → get_or rests position [] ≡ list → All (λ es. comes_first es list ≡ false) rests
  least_at list is = λ k x low.
      let there : get_or rests position (get_or rests k x) ≡ list = get_or_default rests position (get_or rests k x) [] inside ∙ is in
      subst (λ (es : List Entry). comes_first (get_or rests k x) es ≡ false) there (least k x low)

  -- the first entry of that list is taken
  pub taken : (e : Entry) (behind : List Entry) → get_or rests position [] ≡ e ∷ behind → TakesFirst rests e (set rests position behind)
  taken e behind is = record { position = position; behind = behind; inside = inside; was = is; least = least_at (e ∷ behind) is; now = refl }

  -- it has none: then no list has one
  pub all_empty : get_or rests position [] ≡ [] → All (λ es. es ≡ []) rests
  all_empty is = λ k x low. none (get_or rests k x) (least_at [] is k x low)
    where
      none : (es : List Entry) → comes_first es [] ≡ false → es ≡ []
      none [] h = refl
      none (e ∷ es) h = absurd (false≢true (sym h))

-- an entry is taken from the rest of the list at the position
module _ (rests : List Remains) (which : ℕ) (inside : which < length rests) (old new : Remains) (was : get_or rests which old ≡ old) (list : new.list ≡ old.list) where
  at_which : {X : Type 0} → (f : Remains → X) → (d : X) → get_or (map f rests) which d ≡ f old
  at_which f d = get_or-map f rests which old d inside ∙ ap f was

  -- the lists are unchanged
  pub lists_kept : lists_of (set rests which new) ≡ lists_of rests
  lists_kept =
      let f : Remains → List Entry = λ rest. rest.list in
      map-set f rests which new ∙ ap (λ (es : List Entry). set (map f rests) which es) (list ∙ sym (at_which f [])) ∙ set-get_or (map f rests) which []

  -- and the entry is the one at that position of the list
  pub takes_first : (position : ℕ) → left_of old ≡ entry_of old.list position ∷ left_of new → IsLeast (lefts_of rests) which
      → TakesFirst (lefts_of rests) (entry_at (lists_of rests) (record { list = which; position = position })) (lefts_of (set rests which new))
  takes_first position first least =
      let few : which < length (lefts_of rests) = omega (arith, inside, length-map rests left_of) in
      let here : get_or (lefts_of rests) which [] ≡ entry_of old.list position ∷ left_of new = at_which left_of [] ∙ first in
      let item : entry_of old.list position ≡ entry_at (lists_of rests) (record { list = which; position = position }) = ap (λ (es : List Entry). entry_of es position) (sym (at_which (λ rest. rest.list) [])) in
      subst (λ (e : Entry). TakesFirst (lefts_of rests) e (lefts_of (set rests which new))) item
      (subst (λ (ls : List (List Entry)). TakesFirst (lefts_of rests) (entry_of old.list position) ls) (sym (map-set left_of rests which new))
      (taken (lefts_of rests) which few least (entry_of old.list position) (left_of new) here))

-- if nothing was taken, all items remain, in their order
pub lefts_whole : (all : List Answers) → lefts_of (map whole_of all) ≡ kept_in all
lefts_whole [] = refl
lefts_whole (a ∷ all) = ap (λ (ls : List (List Entry)). kept_of a ∷ ls) (lefts_whole all)

pub lists_whole : (all : List Answers) → lists_of (map whole_of all) ≡ lists_of_all all
lists_whole [] = refl
lists_whole (a ∷ all) = ap (λ (ls : List (List Entry)). a.items ∷ ls) (lists_whole all)

-- as many positions are in order as items
pub ordered_all : (all : List Answers) → sum_by (λ (a : Answers). length a.order.items) all ≡ sum_by (λ es. length es) (kept_in all)
ordered_all [] = refl
ordered_all (a ∷ all) =
    let rest = ordered_all all in
    let here = length-map a.order.items (entry_of a.items) in
    let one = sum_by-cons (λ (x : Answers). length x.order.items) a all in
    let other = sum_by-cons (λ (es : List Entry). length es) (kept_of a) (kept_in all) in
    omega (arith, rest, here, one, other)
