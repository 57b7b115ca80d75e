-- The keys that a tree of positions locates: none, one more, and those that are left after one is removed.
use Rattle.std.proofs.Common.{◌≡◌, ◌≢◌, ℕ, zero, suc, ◌-◌, ◌<◌, Bool, true, false, cond, List, [], ◌∷◌, ◌++◌, length, get_or, set, take, Option, Some, None, Result, Ok, Err, OnErr, refl, sym, ap, subst, ◌∙◌, arith, ◌⊎◌, inl, inr}
use Rattle.std.specs.List.{slice_get, swap_remove}
use Rattle.std.specs.Option.{unwrap_or}
use Rattle.std.specs.BTreeMap.{get, is_at}
use Rattle.std.specs.Map.{lookup}
use Rattle.std.proofs.lemmas.Bool.{cases_eq}
use Rattle.std.proofs.lemmas.Option.{slice_get_within, get_or_from_slice_get}
use Rattle.bins.specs.Table.{by_bytes}
use Rattle.bins.specs.Trees.{Positions, Locates, Sets}
use Rattle.bins.proofs.DistinctEntries.{same_key, same_itself, alike, differ}

-- the contents of two options that have a value
pub same_inside : {X : Type 0} (x y : X) → Some x ≡ Some y → x ≡ y
same_inside x y e = ap (λ (o : Option _). unwrap_or o x) e

-- an option with a value isn't empty
pub not_there : {X P : Type 0} (x : X) → None ≡ Some x → P
not_there x e = absurd cc

-- which side of a test was taken
sides : {X : Type 0} (b : Bool) (x y z : X) → cond b x y ≡ z → ((b ≡ true) × (x ≡ z)) ⊎ ((b ≡ false) × (y ≡ z))
sides true x y z e = inl (refl, e)
sides false x y z e = inr (refl, e)

taken : {X : Type 0} (b : Bool) (x y : X) → b ≡ true → cond b x y ≡ x
taken true x y e = refl
taken false x y e = absurd cc

passed : {X : Type 0} (b : Bool) (x y : X) → b ≡ false → cond b x y ≡ y
passed true x y e = absurd cc
passed false x y e = refl

-- keys that were found to differ
unequal : (x y : List ℕ) → same_key x y ≡ false → x ≢ y
unequal x y other same = let itself = same_itself y in let e : same_key y y ≡ false = subst (λ (k : List ℕ). same_key k y ≡ false) same other in absurd cc

-- elements by position: with one more at the end, among the first ones, and with one replaced
module _ {X : Type 0} where
  first_stays : (xs ys : List X) (i : ℕ) (x : X) → slice_get xs i ≡ Some x → slice_get (xs ++ ys) i ≡ Some x
  first_stays [] ys i x at = not_there x at
  first_stays (y ∷ xs) ys zero x at = at
  first_stays (y ∷ xs) ys (suc i) x at = first_stays xs ys i x at

  at_end : (xs : List X) (x : X) → slice_get (xs ++ x ∷ []) (length xs) ≡ Some x
  at_end [] x = refl
  at_end (y ∷ xs) x = at_end xs x

  first_or_end : (xs : List X) (x : X) (i : ℕ) (y : X) → slice_get (xs ++ x ∷ []) i ≡ Some y → (slice_get xs i ≡ Some y) ⊎ ((i ≡ length xs) × (x ≡ y))
  first_or_end [] x zero y at = inr (refl, same_inside x y at)
  first_or_end [] x (suc i) y at = not_there y at
  first_or_end (z ∷ xs) x zero y at = inl at
  first_or_end (z ∷ xs) x (suc i) y at = elim (first_or_end xs x i y at) [ inl first ↦ inl first | inr end ↦ inr (ap suc end.0, end.1) ]

  of_first : (n : ℕ) (xs : List X) (i : ℕ) → i < n → slice_get (take n xs) i ≡ slice_get xs i
  of_first zero xs i lt = absurd (omega (arith, lt))
  of_first (suc n) [] i lt = refl
  of_first (suc n) (x ∷ xs) zero lt = refl
  of_first (suc n) (x ∷ xs) (suc i) lt = of_first n xs i (omega (arith, lt))

  among_first : (n : ℕ) (xs : List X) (i : ℕ) (x : X) → slice_get (take n xs) i ≡ Some x → i < n
  among_first zero xs i x at = not_there x at
  among_first (suc n) [] i x at = not_there x at
  among_first (suc n) (y ∷ xs) zero x at = omega arith
  among_first (suc n) (y ∷ xs) (suc i) x at = let lt = among_first n xs i x at in omega (arith, lt)

  written_here : (xs : List X) (i : ℕ) (x : X) → i < length xs → slice_get (set xs i x) i ≡ Some x
  written_here [] i x lt = absurd (omega (arith, lt))
  written_here (y ∷ xs) zero x lt = refl
  written_here (y ∷ xs) (suc i) x lt = written_here xs i x (omega (arith, lt))

  written_elsewhere : (xs : List X) (i j : ℕ) (x : X) → j ≢ i → slice_get (set xs i x) j ≡ slice_get xs j
  written_elsewhere [] i j x other = refl
  written_elsewhere (y ∷ xs) zero zero x other = absurd (other refl)
  written_elsewhere (y ∷ xs) zero (suc j) x other = refl
  written_elsewhere (y ∷ xs) (suc i) zero x other = refl
  written_elsewhere (y ∷ xs) (suc i) (suc j) x other = written_elsewhere xs i j x (λ e. other (ap suc e))

-- a map of the same entries locates the same keys
pub locates_same : (old new : Positions) (keys : List (List ℕ)) → new.entries ≡ old.entries → Locates old keys → Locates new keys
locates_same old new keys same locates = record {
  has = λ k i at. ap (lookup (is_at (by_bytes k))) same ∙ locates.has k i at;
  only = λ k i is. locates.only k i (sym (ap (lookup (is_at (by_bytes k))) same) ∙ is);
}

pub locates_none : (m : Positions) → m.entries ≡ [] → Locates m []
locates_none m empty = record {
  has = λ k i at. not_there k at;
  only = λ k i is. not_there i (sym (ap (lookup (is_at (by_bytes k))) empty) ∙ is);
}

-- one more key goes to the end
pub locates_more : (old new : Positions) (keys : List (List ℕ)) (key : List ℕ) (position : ℕ) → Locates old keys → Sets old new key (Some position)
    → ((i : ℕ) → slice_get keys i ≢ Some key) → position ≡ length keys → Locates new (keys ++ key ∷ [])
locates_more old new keys key position locates sets absent end = record { has = has; only = only }
  where
    has : (k : List ℕ) (i : ℕ) → slice_get (keys ++ key ∷ []) i ≡ Some k → get by_bytes new k ≡ Some i
    has k i at = elim (first_or_end keys key i k at) [
      | inl first ↦
          let other : same_key key k ≡ false = differ key k (λ same. absent i (first ∙ ap Some (sym same))) in
          sets k ∙ passed (same_key key k) (Some position) (get by_bytes old k) other ∙ locates.has k i first
      | inr last ↦
          let same : same_key key k ≡ true = ap (same_key key) (sym last.1) ∙ same_itself key in
          sets k ∙ taken (same_key key k) (Some position) (get by_bytes old k) same ∙ ap Some (end ∙ sym last.0)
    ]

    only : (k : List ℕ) (i : ℕ) → get by_bytes new k ≡ Some i → slice_get (keys ++ key ∷ []) i ≡ Some k
    only k i is = elim (sides (same_key key k) (Some position) (get by_bytes old k) (Some i) (sym (sets k) ∙ is)) [
      | inl here ↦
          let at : length keys ≡ i = sym end ∙ same_inside position i here.1 in
          subst (λ (j : ℕ). slice_get (keys ++ key ∷ []) j ≡ Some k) at (at_end keys key ∙ ap Some (alike key k here.0))
      | inr before ↦ first_stays keys (key ∷ []) i k (locates.only k i before.1)
    ]

-- a key is removed, and the last one gets its position
module _ (old mid new : Positions) (keys : List (List ℕ)) (key last : List ℕ) (p : ℕ) (locates : Locates old keys) (at : slice_get keys p ≡ Some key) (at_last : slice_get keys (length keys - 1) ≡ Some last)
    (moves : Sets old mid last (Some p)) (takes : Sets mid new key None) where
  abbrev end : ℕ
  end = length keys - 1

  abbrev left : List (List ℕ)
  left = swap_remove keys p last

  -- no key stands twice
  one : (i j : ℕ) (k : List ℕ) → slice_get keys i ≡ Some k → slice_get keys j ≡ Some k → i ≡ j
  one i j k first second = same_inside i j (sym (locates.has k i first) ∙ locates.has k j second)

  -- nor do two keys stand at one position
  alone : (i : ℕ) (j k : List ℕ) → slice_get keys i ≡ Some j → slice_get keys i ≡ Some k → j ≡ k
  alone i j k first second = same_inside j k (sym first ∙ second)

  left_at : (i : ℕ) → i < end → slice_get left i ≡ slice_get (set keys p last) i
  left_at i lt = of_first end (set keys p (get_or keys end last)) i lt ∙ ap (λ (k : List ℕ). slice_get (set keys p k) i) (get_or_from_slice_get keys end last last at_last)

  left_here : p < end → slice_get left p ≡ Some last
  left_here lt = left_at p lt ∙ written_here keys p last (slice_get_within keys p key at)

  left_elsewhere : (i : ℕ) → i < end → i ≢ p → slice_get left i ≡ slice_get keys i
  left_elsewhere i lt other = left_at i lt ∙ written_elsewhere keys p i last other

  new_is : (k : List ℕ) → get by_bytes new k ≡ cond (same_key key k) None (cond (same_key last k) (Some p) (get by_bytes old k))
  new_is k = takes k ∙ ap (cond (same_key key k) None) (moves k)

  has_here : (k : List ℕ) → p < end → slice_get left p ≡ Some k → get by_bytes new k ≡ Some p
  has_here k lt here =
      let is : last ≡ k = same_inside last k (sym (left_here lt) ∙ here) in
      let apart : key ≢ k = λ same. absurd (omega (arith, lt, one p end k (at ∙ ap Some same) (at_last ∙ ap Some is))) in
      new_is k ∙ passed (same_key key k) None _ (differ key k apart) ∙ taken (same_key last k) (Some p) _ (ap (same_key last) (sym is) ∙ same_itself last)

  has_elsewhere : (k : List ℕ) (i : ℕ) → i < end → i ≢ p → slice_get left i ≡ Some k → get by_bytes new k ≡ Some i
  has_elsewhere k i lt other there =
      let stood : slice_get keys i ≡ Some k = sym (left_elsewhere i lt other) ∙ there in
      let apart : key ≢ k = λ same. other (one i p k stood (at ∙ ap Some same)) in
      let not_last : last ≢ k = λ same. absurd (omega (arith, lt, one i end k stood (at_last ∙ ap Some same))) in
      new_is k ∙ passed (same_key key k) None _ (differ key k apart) ∙ passed (same_key last k) (Some p) _ (differ last k not_last) ∙ locates.has k i stood

  has_left : (k : List ℕ) (i : ℕ) → slice_get left i ≡ Some k → get by_bytes new k ≡ Some i
  has_left k i there =
      let lt : i < end = among_first end (set keys p (get_or keys end last)) i k there in
      elim (cases_eq i p) [
        | inl same ↦ let here = subst (λ (j : ℕ). slice_get left j ≡ Some k) same there in has_here k (subst (λ (j : ℕ). j < end) same lt) here ∙ ap Some (sym same)
        | inr other ↦ has_elsewhere k i lt other there
      ]

  -- the last key, if it isn't the removed one
  only_here : (k : List ℕ) (i : ℕ) → key ≢ k → last ≡ k → p ≡ i → slice_get left i ≡ Some k
  only_here k i apart is same =
      let moved : p ≢ end = λ e. apart (alone end key k (subst (λ (j : ℕ). slice_get keys j ≡ Some key) e at) (at_last ∙ ap Some is)) in
      let lt : p < end = omega (arith, moved, slice_get_within keys p key at) in
      subst (λ (j : ℕ). slice_get left j ≡ Some k) same (left_here lt ∙ ap Some is)

  only_elsewhere : (k : List ℕ) (i : ℕ) → key ≢ k → last ≢ k → slice_get keys i ≡ Some k → slice_get left i ≡ Some k
  only_elsewhere k i apart not_last stood =
      let other : i ≢ p = λ e. apart (alone p key k at (subst (λ (j : ℕ). slice_get keys j ≡ Some k) e stood)) in
      let before : i ≢ end = λ e. not_last (alone end last k at_last (subst (λ (j : ℕ). slice_get keys j ≡ Some k) e stood)) in
      left_elsewhere i (omega (arith, before, slice_get_within keys i k stood)) other ∙ stood

  only_left : (k : List ℕ) (i : ℕ) → get by_bytes new k ≡ Some i → slice_get left i ≡ Some k
  only_left k i is = elim (sides (same_key key k) None (cond (same_key last k) (Some p) (get by_bytes old k)) (Some i) (sym (new_is k) ∙ is)) [
    | inl gone ↦ not_there i gone.1
    | inr stays ↦ elim (sides (same_key last k) (Some p) (get by_bytes old k) (Some i) stays.1) [
      | inl here ↦ only_here k i (unequal key k stays.0) (alike last k here.0) (same_inside p i here.1)
      | inr there ↦ only_elsewhere k i (unequal key k stays.0) (unequal last k there.0) (locates.only k i there.1)
    ]
  ]

  pub locates_left : Locates new (swap_remove keys p last)
  locates_left = record { has = has_left; only = only_left }

pub on_err_with : {A E P Q : Type 0} (r : Result A E) → OnErr r P → (P → Q) → OnErr r Q
on_err_with (Ok x) p f = tt
on_err_with (Err e) p f = f p
