-- A key parts the entries of all lists, and a list in key order that has them all.
use Rattle.std.proofs.Common.{◌≡◌, ℕ, zero, suc, ◌+◌, ◌<◌, ◌≤◌, List, [], ◌∷◌, ◌++◌, cond, true, false, All, get_or, length, length-append, map, take, drop, sum_by, refl, sym, ap, ◌∙◌, subst, arith, T}
use Rattle.std.specs.declared.cmp.Ordering.TheVariants.{Less, Equal, Greater}
use Rattle.std.specs.Ordering.{is_lt}
use Rattle.std.specs.Cmp.Lexicographic.{nat_list_cmp_total}
use Rattle.std.specs.FinMap.{is_sorted}
use Rattle.std.specs.FinMap.Entries.{below_all}
use Rattle.std.specs.List.Sorted.{IsPartitionPoint, IsPartitionedBy}
use Rattle.std.proofs.lemmas.Bool.{false≢true}
use Rattle.std.proofs.lemmas.List.{drop-map, take-map, get_or-map, get_or-take, get_or-drop, length-map, length-take-le, length-drop, map-append, take-append-drop}
use Rattle.std.proofs.lemmas.List.Elements.{All-nil, All-cons, All-head, All-tail, All-map}
use Rattle.std.proofs.lemmas.List.Sums.{sum_by-append, sum_by-cons}
use Rattle.bins.specs.Entries.{entries_at, entry_of}
use Rattle.bins.specs.Fronts.{front}
use Rattle.bins.specs.Merged.{entry_at}
use Rattle.bins.specs.declared.merged_entries.EntryPosition.{EntryPosition}
use Rattle.bins.specs.Table.{Entry, by_bytes}
use Rattle.bins.proofs.SameEntries.{both, first, second, less_of}
use Rattle.bulk_walks.specs.declared.answers.Answers.{Answers}
use Rattle.bulk_walks.specs.Kept.{kept_of, kept_in, lists_of_all}
use Rattle.bulk_walks.specs.Leads.{leads_in}
use Rattle.bulk_walks.specs.Merges.{Remains, HasAll, left_of, lefts_of, lists_of, whole_of}
use Rattle.bulk_walks.specs.Halves.{is_before, PartsAt, AreParted, PlacesAll}
use Rattle.bulk_walks.proofs.MergeLemmas.{lefts_whole, lists_whole}
use Rattle.bulk_walks.proofs.Sums.{sum_of_ones}

-- only entries before the key weigh
abbrev early : List ℕ → (Entry → ℕ) → Entry → ℕ
early key weight e = cond (is_before key e) (weight e) 0

-- only the others do
abbrev late : List ℕ → (Entry → ℕ) → Entry → ℕ
late key weight e = cond (is_before key e) 0 (weight e)

early_all : (key : List ℕ) (weight : Entry → ℕ) (es : List Entry) → All (λ e. is_before key e ≡ true) es → (sum_by (early key weight) es ≡ sum_by weight es) × (sum_by (late key weight) es ≡ 0)
early_all key weight [] all = (refl, refl)
early_all key weight (e ∷ es) all =
    let rest = early_all key weight es (All-tail (λ (x : Entry). is_before key x ≡ true) e es all) in
    let is : is_before key e ≡ true = All-head (λ (x : Entry). is_before key x ≡ true) e es all in
    let here : early key weight e ≡ weight e = ap (λ b. cond b (weight e) 0) is in
    let none : late key weight e ≡ 0 = ap (λ b. cond b 0 (weight e)) is in
    let a = sum_by-cons (early key weight) e es in
    let b = sum_by-cons (late key weight) e es in
    let c = sum_by-cons weight e es in
    (omega (arith, rest.0, here, a, c), omega (arith, rest.1, none, b))

late_all : (key : List ℕ) (weight : Entry → ℕ) (es : List Entry) → All (λ e. is_before key e ≡ false) es → (sum_by (early key weight) es ≡ 0) × (sum_by (late key weight) es ≡ sum_by weight es)
late_all key weight [] all = (refl, refl)
late_all key weight (e ∷ es) all =
    let rest = late_all key weight es (All-tail (λ (x : Entry). is_before key x ≡ false) e es all) in
    let is : is_before key e ≡ false = All-head (λ (x : Entry). is_before key x ≡ false) e es all in
    let none : early key weight e ≡ 0 = ap (λ b. cond b (weight e) 0) is in
    let here : late key weight e ≡ weight e = ap (λ b. cond b 0 (weight e)) is in
    let a = sum_by-cons (early key weight) e es in
    let b = sum_by-cons (late key weight) e es in
    let c = sum_by-cons weight e es in
    (omega (arith, rest.0, none, a), omega (arith, rest.1, here, b, c))

-- so the parts weigh what is early and what is late
parts_weigh : (key : List ℕ) (weight : Entry → ℕ) (whole front back : List Entry) → PartsAt key whole front back
    → (sum_by (early key weight) whole ≡ sum_by weight front) × (sum_by (late key weight) whole ≡ sum_by weight back)
parts_weigh key weight whole front back parts =
    let f = early_all key weight front parts.before in
    let g = late_all key weight back parts.after in
    let e = ap (λ (es : List Entry). sum_by (early key weight) es) parts.whole_is in
    let l = ap (λ (es : List Entry). sum_by (late key weight) es) parts.whole_is in
    let c = sum_by-append (early key weight) front back in
    let d = sum_by-append (late key weight) front back in
    (omega (arith, f.0, g.0, e, c), omega (arith, f.1, g.1, l, d))

tail_parted : (key : List ℕ) (x f b : Remains) (wholes fronts backs : List Remains) → AreParted key (x ∷ wholes) (f ∷ fronts) (b ∷ backs) → AreParted key wholes fronts backs
tail_parted key x f b wholes fronts backs are = record {
  fronts_many = omega (arith, are.fronts_many);
  backs_many = omega (arith, are.backs_many);
  each = λ k d low. are.each (suc k) d (omega (arith, low));
}

-- the same of all lists
all_weigh : (key : List ℕ) (weight : Entry → ℕ) (wholes fronts backs : List Remains) → AreParted key wholes fronts backs
    → (sum_by (λ es. sum_by (early key weight) es) (lefts_of wholes) ≡ sum_by (λ es. sum_by weight es) (lefts_of fronts))
    × (sum_by (λ es. sum_by (late key weight) es) (lefts_of wholes) ≡ sum_by (λ es. sum_by weight es) (lefts_of backs))
all_weigh key weight [] [] [] are = (refl, refl)
all_weigh key weight [] [] (b ∷ backs) are = absurd (omega (arith, are.backs_many))
all_weigh key weight [] (f ∷ fronts) backs are = absurd (omega (arith, are.fronts_many))
all_weigh key weight (x ∷ wholes) [] backs are = absurd (omega (arith, are.fronts_many))
all_weigh key weight (x ∷ wholes) (f ∷ fronts) [] are = absurd (omega (arith, are.backs_many))
all_weigh key weight (x ∷ wholes) (f ∷ fronts) (b ∷ backs) are =
    let here = parts_weigh key weight (left_of x) (left_of f) (left_of b) (are.each 0 x (omega arith)).parts in
    let rest = all_weigh key weight wholes fronts backs (tail_parted key x f b wholes fronts backs are) in
    let a = sum_by-cons (λ (es : List Entry). sum_by (early key weight) es) (left_of x) (lefts_of wholes) in
    let c = sum_by-cons (λ (es : List Entry). sum_by (late key weight) es) (left_of x) (lefts_of wholes) in
    let d = sum_by-cons (λ (es : List Entry). sum_by weight es) (left_of f) (lefts_of fronts) in
    let e = sum_by-cons (λ (es : List Entry). sum_by weight es) (left_of b) (lefts_of backs) in
    (omega (arith, here.0, rest.0, a, d), omega (arith, here.1, rest.1, c, e))

-- as many entries are in both parts as before
pub rooms : (key : List ℕ) (wholes fronts backs : List Remains) → AreParted key wholes fronts backs
    → sum_by (λ rest. length (left_of rest)) wholes ≡ sum_by (λ rest. length (left_of rest)) fronts + sum_by (λ rest. length (left_of rest)) backs
rooms key [] [] [] are = refl
rooms key [] [] (b ∷ backs) are = absurd (omega (arith, are.backs_many))
rooms key [] (f ∷ fronts) backs are = absurd (omega (arith, are.fronts_many))
rooms key (x ∷ wholes) [] backs are = absurd (omega (arith, are.fronts_many))
rooms key (x ∷ wholes) (f ∷ fronts) [] are = absurd (omega (arith, are.backs_many))
rooms key (x ∷ wholes) (f ∷ fronts) (b ∷ backs) are =
    let whole : left_of x ≡ left_of f ++ left_of b = (are.each 0 x (omega arith)).parts.whole_is in
    let here = ap (λ (es : List Entry). length es) whole ∙ length-append (left_of f) (left_of b) in
    let rest = rooms key wholes fronts backs (tail_parted key x f b wholes fronts backs are) in
    let a = sum_by-cons (λ (r : Remains). length (left_of r)) x wholes in
    let c = sum_by-cons (λ (r : Remains). length (left_of r)) f fronts in
    let d = sum_by-cons (λ (r : Remains). length (left_of r)) b backs in
    omega (arith, here, rest, a, c, d)

-- both parts of a list in key order are in key order
below_front : (x : List ℕ) (xs ys : List Entry) → T (below_all by_bytes x (xs ++ ys)) → T (below_all by_bytes x xs)
below_front x [] ys h = tt
below_front x (e ∷ xs) ys h = both _ _ (first _ _ h) (below_front x xs ys (second _ _ h))

sorted_front : (xs ys : List Entry) → T (is_sorted by_bytes (xs ++ ys)) → T (is_sorted by_bytes xs)
sorted_front [] ys h = tt
sorted_front (e ∷ xs) ys h = both _ _ (below_front e.0 xs ys (first _ _ h)) (sorted_front xs ys (second _ _ h))

sorted_back : (xs ys : List Entry) → T (is_sorted by_bytes (xs ++ ys)) → T (is_sorted by_bytes ys)
sorted_back [] ys h = h
sorted_back (e ∷ xs) ys h = sorted_back xs ys (second _ _ h)

abbrev pub InOrder : List Remains → Type 0
InOrder rests = All (λ rest. T (is_sorted by_bytes (left_of rest))) rests

pub fronts_sorted : (key : List ℕ) (wholes fronts backs : List Remains) → AreParted key wholes fronts backs → InOrder wholes → InOrder fronts
fronts_sorted key wholes fronts backs are order = λ k d low.
    let inside : k < length wholes = omega (arith, low, are.fronts_many) in
    sorted_front (left_of (get_or fronts k d)) (left_of (get_or backs k d)) (subst (λ (es : List Entry). T (is_sorted by_bytes es)) (are.each k d inside).parts.whole_is (order k d inside))

pub backs_sorted : (key : List ℕ) (wholes fronts backs : List Remains) → AreParted key wholes fronts backs → InOrder wholes → InOrder backs
backs_sorted key wholes fronts backs are order = λ k d low.
    let inside : k < length wholes = omega (arith, low, are.backs_many) in
    sorted_back (left_of (get_or fronts k d)) (left_of (get_or backs k d)) (subst (λ (es : List Entry). T (is_sorted by_bytes es)) (are.each k d inside).parts.whole_is (order k d inside))

-- if a key doesn't come before another, no greater key does
after_one : (key : List ℕ) (e x : Entry) → is_before key e ≡ false → by_bytes e.0 x.0 ≡ Less → is_before key x ≡ false
after_one key e x is less = elim (by_bytes x.0 key) as (λ r. by_bytes x.0 key ≡ r → is_lt r ≡ false) [
  | Less ↦ λ p. absurd (false≢true (sym is ∙ ap is_lt (nat_list_cmp_total.trans e.0 x.0 key less p)))
  | Equal ↦ λ p. refl
  | Greater ↦ λ p. refl
] refl

after_below : (key : List ℕ) (e : Entry) → is_before key e ≡ false → (es : List Entry) → T (below_all by_bytes e.0 es) → All (λ x. is_before key x ≡ false) es
after_below key e is [] h = All-nil (λ (x : Entry). is_before key x ≡ false)
after_below key e is (x ∷ es) h = All-cons (λ (y : Entry). is_before key y ≡ false) x es (after_one key e x is (less_of _ (first _ _ h))) (after_below key e is es (second _ _ h))

-- the two parts of a list in key order, and what they weigh
record Split (key : List ℕ) (whole : List Entry) : Type 0 where
  front : List Entry
  back : List Entry
  whole_is : whole ≡ front ++ back
  front_order : T (is_sorted by_bytes front)
  back_order : T (is_sorted by_bytes back)
  front_weighs : (weight : Entry → ℕ) → sum_by weight front ≡ sum_by (early key weight) whole
  back_weighs : (weight : Entry → ℕ) → sum_by weight back ≡ sum_by (late key weight) whole

split_at : (key : List ℕ) (whole : List Entry) → T (is_sorted by_bytes whole) → Split key whole
split_at key [] order = record { front = []; back = []; whole_is = refl; front_order = tt; back_order = tt; front_weighs = λ w. refl; back_weighs = λ w. refl }
split_at key (e ∷ es) order = elim (is_before key e) as (λ b. is_before key e ≡ b → Split key (e ∷ es)) [
  | true ↦ λ is.
      let rest = split_at key es (second (below_all by_bytes e.0 es) (is_sorted by_bytes es) order) in
      let below : T (below_all by_bytes e.0 (rest.front ++ rest.back)) = subst (λ (xs : List Entry). T (below_all by_bytes e.0 xs)) rest.whole_is (first (below_all by_bytes e.0 es) (is_sorted by_bytes es) order) in
      record {
        front = e ∷ rest.front;
        back = rest.back;
        whole_is = ap (λ (xs : List Entry). e ∷ xs) rest.whole_is;
        front_order = both _ _ (below_front e.0 rest.front rest.back below) rest.front_order;
        back_order = rest.back_order;
        front_weighs = λ w.
            let here : early key w e ≡ w e = ap (λ b. cond b (w e) 0) is in
            let a = sum_by-cons w e rest.front in
            let c = sum_by-cons (early key w) e es in
            let r = rest.front_weighs w in
            omega (arith, here, a, c, r);
        back_weighs = λ w.
            let none : late key w e ≡ 0 = ap (λ b. cond b 0 (w e)) is in
            let c = sum_by-cons (late key w) e es in
            let r = rest.back_weighs w in
            omega (arith, none, c, r);
      }
  | false ↦ λ is.
      let after : All (λ (y : Entry). is_before key y ≡ false) (e ∷ es) = All-cons (λ (y : Entry). is_before key y ≡ false) e es is (after_below key e is es (first (below_all by_bytes e.0 es) (is_sorted by_bytes es) order)) in
      record {
        front = [];
        back = e ∷ es;
        whole_is = refl;
        front_order = tt;
        back_order = order;
        front_weighs = λ w. sym (late_all key w (e ∷ es) after).0;
        back_weighs = λ w. sym (late_all key w (e ∷ es) after).1;
      }
] refl

same_lists : (xs ys : List Remains) → length ys ≡ length xs → ((k : ℕ) (d : Remains) → k < length xs → (get_or ys k d).list ≡ (get_or xs k d).list) → lists_of ys ≡ lists_of xs
same_lists [] [] len each = refl
same_lists [] (y ∷ ys) len each = absurd (omega (arith, len))
same_lists (x ∷ xs) [] len each = absurd (omega (arith, len))
same_lists (x ∷ xs) (y ∷ ys) len each =
    let here : y.list ≡ x.list = each 0 x (omega arith) in
    let rest = same_lists xs ys (omega (arith, len)) (λ k d low. each (suc k) d (omega (arith, low))) in
    λ i. here i ∷ rest i

-- the positions of the front parts and then those of the others are those of all
pub places_both : (key : List ℕ) (wholes fronts backs : List Remains) (ps qs : List EntryPosition) → AreParted key wholes fronts backs → PlacesAll fronts ps → PlacesAll backs qs → PlacesAll wholes (ps ++ qs)
places_both key wholes fronts backs ps qs are front back whole order has =
    let s = split_at key whole order in
    let lists = lists_of wholes in
    let f = front s.front s.front_order (λ w. s.front_weighs w ∙ has (early key w) ∙ (all_weigh key w wholes fronts backs are).0) in
    let b = back s.back s.back_order (λ w. s.back_weighs w ∙ has (late key w) ∙ (all_weigh key w wholes fronts backs are).1) in
    let first_lists = same_lists wholes fronts are.fronts_many (λ k d low. (are.each k d low).front_list) in
    let other_lists = same_lists wholes backs are.backs_many (λ k d low. (are.each k d low).back_list) in
    let here : map (entry_at lists) ps ≡ s.front = ap (λ (ls : List (List Entry)). map (entry_at ls) ps) (sym first_lists) ∙ f in
    let there : map (entry_at lists) qs ≡ s.back = ap (λ (ls : List (List Entry)). map (entry_at ls) qs) (sym other_lists) ∙ b in
    map-append (entry_at lists) ps qs ∙ (λ i. here i ++ there i) ∙ sym s.whole_is

-- keys in order that come before another stand in front
pub parted_by : (key : List ℕ) (es : List Entry) (order : List ℕ) → T (is_sorted by_bytes (entries_at es order)) → IsPartitionedBy (λ p. is_before key (entry_of es p)) order
parted_by key es [] sorted i j d le low is = absurd (omega (arith, low))
parted_by key es (p ∷ order) sorted zero zero d le low is = is
parted_by key es (p ∷ order) sorted (suc i) zero d le low is = absurd (omega (arith, le))
parted_by key es (p ∷ order) sorted (suc i) (suc j) d le low is = parted_by key es order (second _ _ sorted) i j d (omega (arith, le)) (omega (arith, low)) is
parted_by key es (p ∷ order) sorted zero (suc j) d le low is =
    let inside : j < length order = omega (arith, low) in
    let long = length-map order (entry_of es) in
    elim (is_before key (entry_of es p)) as (λ b. is_before key (entry_of es p) ≡ b → is_before key (entry_of es p) ≡ true) [
      | true ↦ λ yes. yes
      | false ↦ λ no.
          let after = after_below key (entry_of es p) no (entries_at es order) (first _ _ sorted) j (entry_of es d) (omega (arith, inside, long)) in
          let there = get_or-map (entry_of es) order j d (entry_of es d) inside in
          absurd (false≢true (sym after ∙ ap (is_before key) there ∙ is))
    ] refl

-- a place in the order parts the entries
pub parts_from : (key : List ℕ) (es : List Entry) (order : List ℕ) (n : ℕ) → n ≤ length order → IsPartitionPoint (λ p. is_before key (entry_of es p) ≡ true) (λ p. is_before key (entry_of es p) ≡ false) order n
    → PartsAt key (entries_at es order) (entries_at es (take n order)) (entries_at es (drop n order))
parts_from key es order n few point = record {
  whole_is = sym (ap (map (entry_of es)) (take-append-drop n order)) ∙ map-append (entry_of es) (take n order) (drop n order);
  before = All-map (λ (e : Entry). is_before key e ≡ true) (entry_of es) (take n order) (λ k d low.
      let inside : k < n = (let len = length-take-le n order few in omega (arith, low, len)) in
      subst (λ p. is_before key (entry_of es p) ≡ true) (sym (get_or-take n order k d inside)) (point.0 k d (omega arith) inside));
  after = All-map (λ (e : Entry). is_before key e ≡ false) (entry_of es) (drop n order) (λ k d low.
      let inside : n + k < length order = (let len = length-drop n order in omega (arith, low, len)) in
      subst (λ p. is_before key (entry_of es p) ≡ false) (sym (get_or-drop n order k d)) (point.1 (n + k) d (omega arith) inside));
}

-- the leads of both parts are parts of the leads
pub leads_front : (es : List Entry) (order leads : List ℕ) → leads ≡ leads_in es order → (n m : ℕ) → take m (drop n leads) ≡ leads_in es (take m (drop n order))
leads_front es order leads led n m =
    let lead : ℕ → ℕ = λ p. front 8 (entry_of es p).0 in
    ap (λ (ls : List ℕ). take m (drop n ls)) led ∙ ap (λ (ls : List ℕ). take m ls) (drop-map lead n order) ∙ take-map lead m (drop n order)

pub leads_back : (es : List Entry) (order leads : List ℕ) → leads ≡ leads_in es order → (n m : ℕ) → drop m (drop n leads) ≡ leads_in es (drop m (drop n order))
leads_back es order leads led n m =
    let lead : ℕ → ℕ = λ p. front 8 (entry_of es p).0 in
    ap (λ (ls : List ℕ). drop m (drop n ls)) led ∙ ap (λ (ls : List ℕ). drop m ls) (drop-map lead n order) ∙ drop-map lead m (drop n order)

-- what remains of all lists, in numbers
pub whole_many : (rests : List Remains) (whole : List Entry) → HasAll whole (lefts_of rests) → length whole ≡ sum_by (λ rest. length (left_of rest)) rests
whole_many rests whole has = sym (sum_of_ones whole) ∙ has (λ _. 1) ∙ ones rests
  where
    ones : (rs : List Remains) → sum_by (λ es. sum_by (λ _. 1) es) (lefts_of rs) ≡ sum_by (λ rest. length (left_of rest)) rs
    ones [] = refl
    ones (r ∷ rs) =
        let rest = ones rs in
        let a = sum_by-cons (λ (es : List Entry). sum_by (λ _. 1) es) (left_of r) (lefts_of rs) in
        let b = sum_by-cons (λ (x : Remains). length (left_of x)) r rs in
        let c = sum_of_ones (left_of r) in
        omega (arith, rest, a, b, c)

-- if nothing was taken, all remain
pub whole_room : (all : List Answers) → sum_by (λ es. length es) (kept_in all) ≡ sum_by (λ rest. length (left_of rest)) (map whole_of all)
whole_room [] = refl
whole_room (a ∷ all) =
    let rest = whole_room all in
    let one = sum_by-cons (λ (es : List Entry). length es) (kept_of a) (kept_in all) in
    let other = sum_by-cons (λ (x : Remains). length (left_of x)) (whole_of a) (map whole_of all) in
    omega (arith, rest, one, other)

pub whole_order : (all : List Answers) → All (λ a. T (is_sorted by_bytes (kept_of a))) all → InOrder (map whole_of all)
whole_order all order = All-map (λ (r : Remains). T (is_sorted by_bytes (left_of r))) whole_of all order

pub lefts_sorted : (rests : List Remains) → InOrder rests → All (λ es. T (is_sorted by_bytes es)) (lefts_of rests)
lefts_sorted rests order = All-map (λ (es : List Entry). T (is_sorted by_bytes es)) left_of rests order

-- the positions of what remains of all answers, if nothing was taken
pub places_whole : (all : List Answers) (rests : List Remains) (ps : List EntryPosition) → rests ≡ map whole_of all → PlacesAll rests ps
    → (whole : List Entry) → T (is_sorted by_bytes whole) → HasAll whole (kept_in all) → map (entry_at (lists_of_all all)) ps ≡ whole
places_whole all rests ps is placed whole order has =
    ap (λ (ls : List (List Entry)). map (entry_at ls) ps) (sym (lists_whole all))
    ∙ subst (λ (rs : List Remains). PlacesAll rs ps) is placed whole order (subst (λ (ls : List (List Entry)). HasAll whole ls) (sym (lefts_whole all)) has)
