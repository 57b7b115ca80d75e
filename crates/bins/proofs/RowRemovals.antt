-- Rows in lists of many widths: what is left after a row or a position is given up.
use Rattle.std.proofs.Common.{◌≡◌, ◌≢◌, ℕ, ◌-◌, ◌<◌, List, [], ◌∷◌, length, get_or, set, take, map, refl, sym, ap, subst, ◌∙◌, arith, inl, inr, get_or-set_same, get_or-set_other}
use Rattle.std.specs.List.{swap_remove}
use Rattle.std.proofs.lemmas.Bool.{cases_eq, cases_lt}
use Rattle.std.proofs.lemmas.List.{length-set, length-map, get_or-map, map-set, get_or_default, take-map, take-set-le, set-set}
use Rattle.std.proofs.lemmas.List.Sums.{sum_by-set, sum_by-swap_remove}
use Rattle.bins.specs.declared.locations.Width.{Width}
use Rattle.bins.specs.declared.locations.Location.{Location}
use Rattle.bins.specs.declared.locations.Location.TheVariants.{Vacant, In}
use Rattle.bins.specs.KeptRows.{KeptRow, Lists, AreMatched, nobody, location_at, row_at, row_of, rows_of, with_rows}
use Rattle.bins.proofs.GapLemmas.{kept_else, kept_moved, one_less}
use Rattle.bins.proofs.RowLemmas.{weight, not_vacant, apart, same_in, weight_in, reads_with, read_with, inside, strings, strings_by, others_matched}

-- a row is given up: the last row takes its location, and its owner gets the new location
module _ (k : Width) (ps : List Location) (ls : List KeptRow) (p at : ℕ) (m : AreMatched k ps ls) (named : location_at ps p ≡ In k at) (d : KeptRow) where
  abbrev last : ℕ
  last = length ls - 1

  abbrev owner : ℕ
  owner = (row_at ls last).owner

  abbrev told : List Location
  told = set ps owner (In k at)

  abbrev pub freed : List Location
  freed = set told p Vacant

  abbrev left : List KeptRow
  left = swap_remove ls at d

  some : at < length ls
  some = (m.named p at named).0

  lasts : location_at ps owner ≡ In k last
  lasts = m.owned last (omega (arith, some))

  owner_inside : owner < length ps
  owner_inside = inside k ps owner last lasts

  in_told : p < length told
  in_told = omega (arith, length-set ps owner (In k at), inside k ps p at named)

  location_freed : location_at freed p ≡ Vacant
  location_freed = get_or-set_same told p Vacant Vacant in_told

  location_told : owner ≢ p → location_at freed owner ≡ In k at
  location_told other = get_or-set_other told p owner Vacant Vacant other ∙ get_or-set_same ps owner (In k at) Vacant owner_inside

  location_else : (q : ℕ) → q ≢ p → q ≢ owner → location_at freed q ≡ location_at ps q
  location_else q one two = get_or-set_other told p q Vacant Vacant one ∙ get_or-set_other ps owner q (In k at) Vacant two

  -- the row given up is the last one exactly if the last one's owner is its position
  last_is : owner ≡ p → at ≡ last
  last_is same = same_in k _ _ (sym named ∙ ap (location_at ps) (sym same) ∙ lasts)

  owner_is : at ≡ last → owner ≡ p
  owner_is same = ap (λ (n : ℕ). (row_at ls n).owner) (sym same) ∙ (m.named p at named).1

  before_last : owner ≢ p → at < last
  before_last other = elim (cases_lt at last) [ inl below ↦ below | inr above ↦ absurd (other (owner_is (omega (arith, above, some)))) ]

  -- another location names neither the row given up nor the last one
  others_name : (q i : ℕ) → q ≢ p → q ≢ owner → location_at ps q ≡ In k i → (i < last) × (i ≢ at)
  others_name q i one two e =
      let before = m.named q i e in
      let not_last : i ≢ last = λ is. two (sym before.1 ∙ ap (λ (n : ℕ). (row_at ls n).owner) is) in
      let not_at : i ≢ at = λ is. one (sym before.1 ∙ ap (λ (n : ℕ). (row_at ls n).owner) is ∙ (m.named p at named).1) in
      let bound : i < length ls = before.0 in
      (omega arith, not_at)

  named_freed : (q i : ℕ) → location_at freed q ≡ In k i → (i < length left) × ((row_at left i).owner ≡ q)
  named_freed q i e = elim (cases_eq q p) [
    | inl is ↦ absurd (not_vacant k _ i location_freed (ap (location_at freed) (sym is) ∙ e))
    | inr one ↦ elim (cases_eq q owner) [
      | inl is ↦
          let away : owner ≢ p = λ same. one (is ∙ same) in
          let below = before_last away in
          let this : at ≡ i = same_in k _ _ (sym (location_told away) ∙ ap (location_at freed) (sym is) ∙ e) in (
            omega (arith, this, below, one_less ls at d d some),
            ap (λ (n : ℕ). (row_at left n).owner) (sym this) ∙ ap (λ (r : KeptRow). r.owner) (kept_moved ls at d nobody some below) ∙ sym is,
          )
      | inr two ↦
          let old : location_at ps q ≡ In k i = sym (location_else q one two) ∙ e in
          let there = others_name q i one two old in
          (omega (arith, there.0, one_less ls at d d some), ap (λ (r : KeptRow). r.owner) (kept_else ls at d nobody some i there.0 there.1) ∙ (m.named q i old).1)
    ]
  ]

  owned_freed : (i : ℕ) → i < length left → location_at freed (row_at left i).owner ≡ In k i
  owned_freed i within =
      let below : i < last = omega (arith, within, one_less ls at d d some) in
      elim (cases_eq i at) [
        | inl is ↦
            let at_below : at < last = omega (arith, is, below) in
            let away : owner ≢ p = λ same. absurd (omega (arith, at_below, last_is same)) in
            subst (λ (n : ℕ). location_at freed (row_at left n).owner ≡ In k n) (sym is)
            (ap (λ (r : KeptRow). location_at freed r.owner) (kept_moved ls at d nobody some at_below) ∙ location_told away)
        | inr other ↦
            let old = m.owned i (omega (arith, below)) in
            let one : (row_at ls i).owner ≢ p = λ same. other (same_in k _ _ (sym old ∙ ap (location_at ps) same ∙ named)) in
            let two : (row_at ls i).owner ≢ owner = λ same. absurd (omega (arith, below, same_in k _ _ (sym old ∙ ap (location_at ps) same ∙ lasts))) in
            ap (λ (r : KeptRow). location_at freed r.owner) (kept_else ls at d nobody some i below other) ∙ location_else _ one two ∙ old
      ]

  location_in_told : location_at told p ≡ In k at
  location_in_told = elim (cases_eq p owner) [
    | inl is ↦ ap (location_at told) is ∙ get_or-set_same ps owner (In k at) Vacant owner_inside
    | inr other ↦ get_or-set_other ps owner p (In k at) Vacant other ∙ named
  ]

  pub freed_matched : AreMatched k freed left
  freed_matched =
      let first = sum_by-set (weight k) ps owner (In k at) Vacant owner_inside in
      let second = sum_by-set (weight k) told p Vacant Vacant in_told in
      record {
        named = named_freed;
        owned = owned_freed;
        counted = omega (arith, first, second, ap (weight k) lasts, ap (weight k) location_in_told, weight_in k last, weight_in k at, m.counted, one_less ls at d d some, some);
      }

  -- rows of another width are unchanged
  pub freed_other : (j : Width) → j ≢ k → (os : List KeptRow) → AreMatched j ps os → AreMatched j freed os
  freed_other j other os n =
      let once = others_matched j ps os owner (In k at) n owner_inside (λ i. apart j k (location_at ps owner) last i other lasts) (λ i. apart j k (In k at) at i other refl) in
      others_matched j told os p Vacant once in_told (λ i. apart j k (location_at told p) at i other location_in_told) (λ i. not_vacant j Vacant i refl)

  pub freed_vacant : location_at freed p ≡ Vacant
  freed_vacant = location_freed

  pub freed_length : length freed ≡ length ps
  freed_length = length-set told p Vacant ∙ length-set ps owner (In k at)

  module _ (lists : Lists) (are : rows_of lists k ≡ ls) (f : KeptRow → List ℕ) (empty : f nobody ≡ []) where
    abbrev old_read : Location → List ℕ
    old_read x = f (row_of lists x)

    abbrev new_read : Location → List ℕ
    new_read x = f (row_of (with_rows lists k left) x)

    was : (i : ℕ) → f (row_at ls i) ≡ f (row_at (rows_of lists k) i)
    was i = ap (λ (rs : List KeptRow). f (row_at rs i)) (sym are)

    string_else : (q : ℕ) → q ≢ p → new_read (location_at freed q) ≡ old_read (location_at ps q)
    string_else q one = elim (cases_eq q owner) [
      | inl is ↦
          let away : owner ≢ p = λ same. one (is ∙ same) in
          ap (λ (n : ℕ). new_read (location_at freed n)) is ∙ read_with k f lists left (location_at freed owner) at (location_told away)
          ∙ ap f (kept_moved ls at d nobody some (before_last away)) ∙ was last
          ∙ sym (ap old_read lasts) ∙ ap (λ (n : ℕ). old_read (location_at ps n)) (sym is)
      | inr two ↦ ap new_read (location_else q one two) ∙ reads_with k f lists left (location_at ps q) (λ i e.
          let there = others_name q i one two e in ap f (kept_else ls at d nobody some i there.0 there.1) ∙ was i)
    ]

    pub freed_strings : strings f freed (with_rows lists k left) ≡ set (strings f ps lists) p []
    freed_strings = strings_by f ps freed lists (with_rows lists k left) p [] freed_length (inside k ps p at named)
        (ap new_read location_freed ∙ empty) string_else

-- a vacant position is removed: the last position takes the gap, and the row that it names, if any, gets the new position
module _ (k : Width) (ps : List Location) (ls : List KeptRow) (p : ℕ) (m : AreMatched k ps ls) (vacant : location_at ps p ≡ Vacant) (lt : p < length ps) (d : Location) (ms : List KeptRow)
    (long : length ms ≡ length ls)
    (moved : (i : ℕ) → location_at ps (length ps - 1) ≡ In k i → (row_at ms i).owner ≡ p)
    (others : (i : ℕ) → (location_at ps (length ps - 1) ≡ In k i → ⊥) → (row_at ms i).owner ≡ (row_at ls i).owner) where
  abbrev tail : ℕ
  tail = length ps - 1

  abbrev rest : List Location
  rest = swap_remove ps p d

  in_rest : (q i : ℕ) → location_at rest q ≡ In k i → q < tail
  in_rest q i e = omega (arith, inside k rest q i e, one_less ps p d d lt)

  named_rest : (q i : ℕ) → location_at rest q ≡ In k i → (i < length ms) × ((row_at ms i).owner ≡ q)
  named_rest q i e =
      let below = in_rest q i e in
      elim (cases_eq q p) [
        | inl is ↦
            let here : p < tail = omega (arith, is, below) in
            let old : location_at ps tail ≡ In k i = sym (kept_moved ps p d Vacant lt here) ∙ ap (location_at rest) (sym is) ∙ e in
            (omega (arith, (m.named tail i old).0, long), moved i old ∙ sym is)
        | inr other ↦
            let old : location_at ps q ≡ In k i = sym (kept_else ps p d Vacant lt q below other) ∙ e in
            let not_tail : location_at ps tail ≡ In k i → ⊥ = λ at. absurd (omega (arith, below, sym (m.named q i old).1 ∙ (m.named tail i at).1)) in
            (omega (arith, (m.named q i old).0, long), others i not_tail ∙ (m.named q i old).1)
      ]

  owned_rest : (i : ℕ) → i < length ms → location_at rest (row_at ms i).owner ≡ In k i
  owned_rest i within =
      let at = (row_at ls i).owner in
      let old : location_at ps at ≡ In k i = m.owned i (omega (arith, within, long)) in
      let not_p : at ≢ p = λ is. not_vacant k _ i (ap (location_at ps) is ∙ vacant) old in
      elim (cases_eq at tail) [
        | inl is ↦
            let tails : location_at ps tail ≡ In k i = ap (location_at ps) (sym is) ∙ old in
            let here : p < tail = elim (cases_lt p tail) [ inl below ↦ below | inr above ↦ absurd (not_p (omega (arith, above, lt, is))) ] in
            ap (location_at rest) (moved i tails) ∙ kept_moved ps p d Vacant lt here ∙ tails
        | inr other ↦
            let not_tail : location_at ps tail ≡ In k i → ⊥ = λ tails. other (sym (m.named at i old).1 ∙ (m.named tail i tails).1) in
            let range = inside k ps at i old in
            let below : at < tail = omega (arith, range, other) in
            ap (location_at rest) (others i not_tail) ∙ kept_else ps p d Vacant lt at below not_p ∙ old
      ]

  pub taken_matched : AreMatched k rest ms
  taken_matched = record {
    named = named_rest;
    owned = owned_rest;
    counted = omega (arith, sum_by-swap_remove (weight k) ps p d lt, ap (weight k) (get_or_default ps p d Vacant lt ∙ vacant), m.counted, long);
  }

-- the strings of the positions that are left, if each row reads as before
module _ (old new : Location → List ℕ) (ps : List Location) (p : ℕ) (lt : p < length ps) (d : Location) (same : (x : Location) → new x ≡ old x) where
  same_each : (xs : List Location) → map new xs ≡ map old xs
  same_each [] = refl
  same_each (x ∷ xs) = (λ i. same x i ∷ same_each xs i)

  pub taken_strings : map new (swap_remove ps p d) ≡ swap_remove (map old ps) p []
  taken_strings =
      same_each (swap_remove ps p d)
      ∙ sym (take-map old (length ps - 1) (set ps p (get_or ps (length ps - 1) d)))
      ∙ ap (take (length ps - 1)) (map-set old ps p (get_or ps (length ps - 1) d) ∙ ap (set (map old ps) p) (sym (get_or-map old ps (length ps - 1) d [] (omega (arith, lt)))))
      ∙ ap (λ (n : ℕ). take (n - 1) (set (map old ps) p (get_or (map old ps) (n - 1) []))) (sym (length-map ps old))

-- a row gets its position
module _ (k : Width) (ls : List KeptRow) (last : Location) (at p : ℕ) (is : last ≡ In k at) (lt : at < length ls) where
  abbrev told_row : KeptRow
  told_row = record { key = (row_at ls at).key; value = (row_at ls at).value; owner = p }

  abbrev pub now_told : List KeptRow
  now_told = set ls at told_row

  pub told_reads : (f : KeptRow → List ℕ) → f told_row ≡ f (row_at ls at) → (i : ℕ) → f (row_at now_told i) ≡ f (row_at ls i)
  told_reads f reads i = elim (cases_eq i at) [
    | inl same ↦ subst (λ (n : ℕ). f (row_at now_told n) ≡ f (row_at ls n)) (sym same) (ap f (get_or-set_same ls at told_row nobody lt) ∙ reads)
    | inr other ↦ ap f (get_or-set_other ls at i told_row nobody other)
  ]

  pub told_owner : (i : ℕ) → last ≡ In k i → (row_at now_told i).owner ≡ p
  told_owner i named =
      let same : at ≡ i = same_in k at i (sym is ∙ named) in
      subst (λ (n : ℕ). (row_at now_told n).owner ≡ p) same (ap (λ (r : KeptRow). r.owner) (get_or-set_same ls at told_row nobody lt))

  pub told_others : (i : ℕ) → (last ≡ In k i → ⊥) → (row_at now_told i).owner ≡ (row_at ls i).owner
  told_others i not_this =
      let other : i ≢ at = λ same. not_this (is ∙ ap (In k) (sym same)) in
      ap (λ (r : KeptRow). r.owner) (get_or-set_other ls at i told_row nobody other)

-- if you remove a string, you may empty it first
pub emptied_first : (xs : List (List ℕ)) (p : ℕ) (b : List ℕ) → p < length xs → swap_remove (set xs p b) p [] ≡ swap_remove xs p []
emptied_first xs p b lt =
    ap (λ (n : ℕ). take (n - 1) (set (set xs p b) p (get_or (set xs p b) (n - 1) []))) (length-set xs p b)
    ∙ ap (take (length xs - 1)) (set-set xs p b (get_or (set xs p b) (length xs - 1) []))
    ∙ elim (cases_eq (length xs - 1) p) [
      | inl is ↦ take-set-le (length xs - 1) xs p _ (omega (arith, is)) ∙ sym (take-set-le (length xs - 1) xs p _ (omega (arith, is)))
      | inr other ↦ ap (λ (x : List ℕ). take (length xs - 1) (set xs p x)) (get_or-set_other xs p (length xs - 1) b [] other)
    ]
