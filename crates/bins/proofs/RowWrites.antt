-- Rows in lists of many widths: what is left after a new row, a change of a row and a new position.
use Rattle.std.proofs.Common.{◌≡◌, ◌≢◌, ℕ, ◌<◌, List, [], ◌∷◌, ◌++◌, length, set, refl, sym, ap, subst, ◌∙◌, arith, inl, inr, get_or-set_same, get_or-set_other}
use Rattle.std.proofs.lemmas.Bool.{cases_eq, cases_lt}
use Rattle.std.proofs.lemmas.List.{length-set, get_or_append_left, get_or_push, length_push, set_at}
use Rattle.std.proofs.lemmas.List.Sums.{sum_by-set, sum_by_push}
use Rattle.bins.specs.declared.locations.Width.{Width}
use Rattle.bins.specs.declared.locations.Location.{Location}
use Rattle.bins.specs.declared.locations.Location.TheVariants.{Vacant, In}
use Rattle.bins.specs.KeptRows.{KeptRow, Lists, AreMatched, nobody, location_at, row_at, row_of, rows_of, with_rows}
use Rattle.bins.proofs.RowLemmas.{weight, not_vacant, apart, same_in, weight_in, reads_with, read_with, inside, strings, strings_by, others_matched}

-- a row is added after the others, for a vacant location
module _ (k : Width) (ps : List Location) (ls : List KeptRow) (p : ℕ) (m : AreMatched k ps ls) (lt : p < length ps) (vacant : location_at ps p ≡ Vacant) (added : KeptRow) (owns : added.owner ≡ p) where
  abbrev ms : List KeptRow
  ms = ls ++ added ∷ []

  abbrev here : Location
  here = In k (length ls)

  abbrev qs : List Location
  qs = set ps p here

  away_from : (q i : ℕ) → location_at ps q ≡ In k i → q ≢ p
  away_from q i named same = not_vacant k (location_at ps q) i (ap (location_at ps) same ∙ vacant) named

  kept_old : (i : ℕ) → i < length ls → row_at ms i ≡ row_at ls i
  kept_old i below = get_or_append_left ls (added ∷ []) nobody i below

  kept_new : row_at ms (length ls) ≡ added
  kept_new = get_or_push ls added nobody (length ls) refl

  location_new : location_at qs p ≡ here
  location_new = get_or-set_same ps p here Vacant lt

  named_link : (q i : ℕ) → location_at qs q ≡ In k i → (i < length ms) × ((row_at ms i).owner ≡ q)
  named_link q i e = elim (cases_eq q p) [
    | inl at ↦
        let last : length ls ≡ i = same_in k _ _ (sym location_new ∙ ap (location_at qs) (sym at) ∙ e) in
        (omega (arith, last, length_push ls added), ap (λ (n : ℕ). (row_at ms n).owner) (sym last) ∙ ap (λ (r : KeptRow). r.owner) kept_new ∙ owns ∙ sym at)
    | inr other ↦
        let before = m.named q i (sym (get_or-set_other ps p q here Vacant other) ∙ e) in
        (omega (arith, before.0, length_push ls added), ap (λ (r : KeptRow). r.owner) (kept_old i before.0) ∙ before.1)
  ]

  owned_link : (i : ℕ) → i < length ms → location_at qs (row_at ms i).owner ≡ In k i
  owned_link i within = elim (cases_lt i (length ls)) [
    | inl below ↦ ap (λ (r : KeptRow). location_at qs r.owner) (kept_old i below)
        ∙ get_or-set_other ps p (row_at ls i).owner here Vacant (away_from _ i (m.owned i below)) ∙ m.owned i below
    | inr above ↦
        let last : length ls ≡ i = omega (arith, within, above, length_push ls added) in
        subst (λ (n : ℕ). location_at qs (row_at ms n).owner ≡ In k n) last (ap (λ (r : KeptRow). location_at qs r.owner) kept_new ∙ ap (location_at qs) owns ∙ location_new)
  ]

  pub linked : AreMatched k qs ms
  linked = record {
    named = named_link;
    owned = owned_link;
    counted = omega (arith, sum_by-set (weight k) ps p here Vacant lt, ap (weight k) vacant, weight_in k (length ls), m.counted, length_push ls added);
  }

  -- rows of another width are unchanged
  pub linked_other : (j : Width) → j ≢ k → (os : List KeptRow) → AreMatched j ps os → AreMatched j qs os
  linked_other j other os n = others_matched j ps os p here n lt (λ i. not_vacant j (location_at ps p) i vacant) (λ i. apart j k here (length ls) i other refl)

  module _ (lists : Lists) (are : rows_of lists k ≡ ls) (f : KeptRow → List ℕ) where
    pub linked_strings : strings f qs (with_rows lists k ms) ≡ set (strings f ps lists) p (f added)
    linked_strings = strings_by f ps qs lists (with_rows lists k ms) p (f added) (length-set ps p here) lt
        (read_with k f lists ms (location_at qs p) (length ls) location_new ∙ ap f kept_new)
        (λ q other. ap (λ (x : Location). f (row_of (with_rows lists k ms) x)) (get_or-set_other ps p q here Vacant other)
        ∙ reads_with k f lists ms (location_at ps q) (λ i e. ap f (kept_old i (m.named q i e).0) ∙ ap (λ (rs : List KeptRow). f (row_at rs i)) (sym are)))

-- a row is replaced
module _ (k : Width) (ps : List Location) (ls : List KeptRow) (p at : ℕ) (m : AreMatched k ps ls) (named : location_at ps p ≡ In k at) (new : KeptRow) (owns : new.owner ≡ (row_at ls at).owner) where
  abbrev over : List KeptRow
  over = set ls at new

  within : at < length ls
  within = (m.named p at named).0

  same_owner : (i : ℕ) → (row_at over i).owner ≡ (row_at ls i).owner
  same_owner i = elim (cases_eq i at) [
    | inl is ↦ subst (λ (n : ℕ). (row_at over n).owner ≡ (row_at ls n).owner) (sym is) (ap (λ (r : KeptRow). r.owner) (get_or-set_same ls at new nobody within) ∙ owns)
    | inr other ↦ ap (λ (r : KeptRow). r.owner) (get_or-set_other ls at i new nobody other)
  ]

  pub written : AreMatched k ps over
  written = record {
    named = λ q i e. let before = m.named q i e in (omega (arith, before.0, length-set ls at new), same_owner i ∙ before.1);
    owned = λ i below. ap (location_at ps) (same_owner i) ∙ m.owned i (omega (arith, below, length-set ls at new));
    counted = m.counted ∙ sym (length-set ls at new);
  }

  -- another location names another row
  not_this : (q i : ℕ) → q ≢ p → location_at ps q ≡ In k i → i ≢ at
  not_this q i other e is = other (sym (m.named q i e).1 ∙ ap (λ (n : ℕ). (row_at ls n).owner) is ∙ (m.named p at named).1)

  module _ (lists : Lists) (are : rows_of lists k ≡ ls) (f : KeptRow → List ℕ) where
    pub written_strings : strings f ps (with_rows lists k over) ≡ set (strings f ps lists) p (f new)
    written_strings = strings_by f ps ps lists (with_rows lists k over) p (f new) refl (inside k ps p at named)
        (read_with k f lists over (location_at ps p) at named ∙ ap f (get_or-set_same ls at new nobody within))
        (λ q other. reads_with k f lists over (location_at ps q) (λ i e. ap f (get_or-set_other ls at i new nobody (not_this q i other e)) ∙ ap (λ (rs : List KeptRow). f (row_at rs i)) (sym are)))

-- a vacant location is added after the others
module _ (k : Width) (ps : List Location) (ls : List KeptRow) (m : AreMatched k ps ls) where
  abbrev further : List Location
  further = ps ++ Vacant ∷ []

  location_before : (q : ℕ) → q < length ps → location_at further q ≡ location_at ps q
  location_before q below = get_or_append_left ps (Vacant ∷ []) Vacant q below

  named_before : (q i : ℕ) → location_at further q ≡ In k i → q < length ps
  named_before q i e = elim (cases_lt q (length ps)) [
    | inl below ↦ below
    | inr above ↦
        let at : q ≡ length ps = omega (arith, above, inside k further q i e, length_push ps Vacant) in
        absurd (not_vacant k (location_at further q) i (ap (location_at further) at ∙ get_or_push ps Vacant Vacant (length ps) refl) e)
  ]

  pub pushed_matched : AreMatched k further ls
  pushed_matched = record {
    named = λ q i e. m.named q i (sym (location_before q (named_before q i e)) ∙ e);
    owned = λ i below. let old = m.owned i below in location_before _ (inside k ps _ i old) ∙ old;
    counted = omega (arith, sum_by_push (weight k) ps Vacant, m.counted);
  }

-- a string is added after the others
pub pushed_string : (xs ys : List (List ℕ)) (p : ℕ) (b : List ℕ) → ys ≡ xs ++ [] ∷ [] → p ≡ length xs → set ys p b ≡ xs ++ b ∷ []
pushed_string xs ys p b is at = ap (λ (zs : List (List ℕ)). set zs p b) is ∙ set_at xs [] [] b p (sym at)
