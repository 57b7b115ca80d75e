-- How the keys of a list are found by position: with the hashes of the keys, and with a tree of them.
use Rattle.std.proofs.Common.{◌≡◌, ◌≢◌, ℕ, zero, suc, ◌+◌, ◌-◌, ◌<◌, List, [], ◌∷◌, length, get_or, set, take, map, Option, Some, None, IfSome, IfNone, HoldsAt, refl, sym, ap, subst, ◌∙◌, arith}
use Rattle.std.specs.List.{AllWithin, slice_get, swap_remove}
use Rattle.std.specs.BTreeMap.{get}
use Rattle.std.specs.FinMap.{find}
use Rattle.std.proofs.lemmas.List.{length-map, map-set, get_or-map, take-map, get_or_default, take_more, length-take-le, get_or-take}
use Rattle.std.proofs.lemmas.Option.{slice_get_within}
use Rattle.bins.specs.Table.{Entry, by_bytes}
use Rattle.bins.specs.Entries.{Distinct, entries_in}
use Rattle.bins.specs.Trees.{Positions, Locates, Sets, StandOnce}
use Rattle.bins.proofs.DistinctEntries.{HasKey, find_here}
use Rattle.bins.proofs.PairedEntries.{paired-at, paired-length}
use Rattle.bins.proofs.TreeLemmas.{not_there, same_inside, locates_more}

-- if you remove an element and then map the list, you may map it first
pub map-swap_remove : {X Y : Type 0} (f : X → Y) (xs : List X) (p : ℕ) (d : X) (e : Y) → p < length xs → swap_remove (map f xs) p e ≡ map f (swap_remove xs p d)
map-swap_remove f xs p d e lt =
    let last : get_or (map f xs) (length xs - 1) e ≡ f (get_or xs (length xs - 1) d) = get_or-map f xs (length xs - 1) d e (omega (arith, lt)) in
    ap (λ (m : ℕ). take (m - 1) (set (map f xs) p (get_or (map f xs) (m - 1) e))) (length-map xs f)
    ∙ ap (take (length xs - 1)) (ap (set (map f xs) p) last ∙ sym (map-set f xs p (get_or xs (length xs - 1) d)))
    ∙ take-map f (length xs - 1) (set xs p (get_or xs (length xs - 1) d))

-- if a list isn't empty, it doesn't matter what would be read of an empty one
pub swap_remove_default : {X : Type 0} (xs : List X) (p : ℕ) (d e : X) → p < length xs → swap_remove xs p d ≡ swap_remove xs p e
swap_remove_default xs p d e lt = ap (λ (x : _). take (length xs - 1) (set xs p x)) (get_or_default xs (length xs - 1) d e (omega (arith, lt)))

-- an element at a position, said in two ways
module _ {X : Type 0} where
  pub stands : (xs : List X) (i : ℕ) (d : X) → i < length xs → slice_get xs i ≡ Some (get_or xs i d)
  stands [] i d lt = absurd (omega (arith, lt))
  stands (x ∷ xs) zero d lt = refl
  stands (x ∷ xs) (suc i) d lt = stands xs i d (omega (arith, lt))

  pub read : (xs : List X) (i : ℕ) (d x : X) → slice_get xs i ≡ Some x → get_or xs i d ≡ x
  read xs i d x at = same_inside _ _ (sym (stands xs i d (slice_get_within xs i x at)) ∙ at)

-- a key that stands nowhere
pub nowhere : (keys : List (List ℕ)) (key : List ℕ) → AllWithin (λ k. k ≢ key) keys 0 (length keys) → (i : ℕ) → slice_get keys i ≢ Some key
nowhere keys key none i at = none i [] (omega arith) (slice_get_within keys i key at) (read keys i [] key at)

-- the tree's position of a key
module _ (m : Positions) (keys : List (List ℕ)) (key : List ℕ) (locates : Locates m keys) where
  pub bound_by : (place : Option ℕ) → place ≡ get by_bytes m key → IfSome place (λ position. position < length keys)
  bound_by None is = tt
  bound_by (Some i) is = slice_get_within keys i key (locates.only key i (sym is))

  pub found_by : (place : Option ℕ) → place ≡ get by_bytes m key → IfSome place (HoldsAt (λ k. k ≡ key) keys)
  found_by None is = tt
  found_by (Some i) is = λ d. read keys i d key (locates.only key i (sym is))

  pub absent_by : (place : Option ℕ) → place ≡ get by_bytes m key → IfNone place (AllWithin (λ k. k ≢ key) keys 0 (length keys))
  absent_by None is = λ j d low high same. not_there j (is ∙ locates.has key j (stands keys j d high ∙ ap Some same))
  absent_by (Some i) is = tt

-- no key stands twice among entries that have none twice
not_twice : (e : Entry) (es : List Entry) (j : ℕ) (k : List ℕ) → Distinct (e ∷ es) → j < length es → e.0 ≡ k → HasKey k es j → ⊥
not_twice e es j k h lt here there =
    let d : Entry = (k, k) in
    not_there _ (sym (ap (λ (x : List ℕ). find by_bytes x es) (sym here) ∙ h.0) ∙ find_here es j k d h.1 lt there)

once : (es : List Entry) (i j : ℕ) (k : List ℕ) → Distinct es → i < length es → j < length es → HasKey k es i → HasKey k es j → i ≡ j
once [] i j k h lt lu at there = absurd (omega (arith, lt))
once (e ∷ es) zero zero k h lt lu at there = refl
once (e ∷ es) zero (suc j) k h lt lu at there = absurd (not_twice e es j k h (omega (arith, lu)) (at e) there)
once (e ∷ es) (suc i) zero k h lt lu at there = absurd (not_twice e es i k h (omega (arith, lt)) (there e) at)
once (e ∷ es) (suc i) (suc j) k h lt lu at there = ap suc (once es i j k h.1 (omega (arith, lt)) (omega (arith, lu)) at there)

pub stand_once : (ks vs : List (List ℕ)) → length ks ≡ length vs → Distinct (entries_in ks vs) → StandOnce ks
stand_once ks vs same distinct i j key at there =
    let has : (p : ℕ) → slice_get ks p ≡ Some key → HasKey key (entries_in ks vs) p = λ p is d.
    ap (λ (e : Entry). e.0) (paired-at ks vs p d same (slice_get_within ks p key is)) ∙ read ks p d.0 key is in
    let many = paired-length ks vs same in
    once (entries_in ks vs) i j key distinct (omega (arith, many, slice_get_within ks i key at)) (omega (arith, many, slice_get_within ks j key there)) (has i at) (has j there)

-- one more key is located
pub locates_next : (keys : List (List ℕ)) (i : ℕ) (old new : Positions) → StandOnce keys → i < length keys → Locates old (take i keys) → Sets old new (get_or keys i []) (Some i)
    → Locates new (take (i + 1) keys)
locates_next keys i old new single lt locates sets =
    let size : length (take i keys) ≡ i = length-take-le i keys (omega (arith, lt)) in
    let here = stands keys i [] lt in
    let absent : (j : ℕ) → slice_get (take i keys) j ≢ Some (get_or keys i []) = λ j at.
    (let below : j < i = omega (arith, slice_get_within (take i keys) j _ at, size) in
    let there : slice_get keys j ≡ Some (get_or keys i []) = stands keys j [] (omega (arith, below, lt)) ∙ ap Some (sym (get_or-take i keys j [] below) ∙ read (take i keys) j [] _ at) in
    absurd (omega (arith, below, single j i _ there here))) in
    subst (Locates new) (sym (take_more keys i [] lt)) (locates_more old new (take i keys) (get_or keys i []) i locates sets absent (sym size))
