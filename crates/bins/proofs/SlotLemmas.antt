-- Rows in the slots of segments: a segment has `e` slots, and each takes `w` bytes.
use Rattle.std.proofs.Common.{◌≡◌, ◌≢◌, ℕ, ◌+◌, ◌-◌, ◌*◌, ◌/◌, ◌<◌, ◌≤◌, ◌⊎◌, List, [], ◌∷◌, ◌++◌, length, get_or, set, take, sym, ap, subst, ◌∙◌, inl, inr, arith, get_or-set_same, get_or-set_other}
use Rattle.std.specs.List.{swap_remove}
use Rattle.std.proofs.lemmas.Bool.{cases_eq, cases_lt}
use Rattle.std.proofs.lemmas.List.{ext_get_or, get_or_append_left, get_or_push, get_or-take, length-set, length_push}
use Rattle.std.proofs.lemmas.List.FromFn.{get_or-map-range_with_len, length-map-range_with_len}
use Rattle.std.proofs.Math.Nat.{mul-le-mul_left}
use Rattle.bins.specs.declared.width_rows.TheConstants.{FRONT_BYTES}
use Rattle.bins.specs.KeptRows.{KeptRow, nobody, row_at, row_in}
use Rattle.bins.specs.Segments.{HoldRows, HoldsSlot, KeepsOthers, part, rows_from, slot}
use Rattle.bins.proofs.GapLemmas.{kept_else, kept_moved, one_less}

-- the place of a row in its segment
abbrev pub place : ℕ → ℕ → ℕ → ℕ
place e w i = FRONT_BYTES + (i - i / e * e) * w

abbrev segment_at : List (List ℕ) → ℕ → List ℕ
segment_at segments s = get_or segments s []

module _ (e w : ℕ) (some : 0 < e) where
  pub below_end : (i : ℕ) → place e w i + w ≤ FRONT_BYTES + e * w
  below_end i =
      let rest : i - i / e * e + 1 ≤ e = omega arith in
      omega (arith, mul-le-mul_left w rest)

  less_apart : (a b : ℕ) → a < b → FRONT_BYTES + a * w + w ≤ FRONT_BYTES + b * w
  less_apart a b less = let more : a + 1 ≤ b = omega arith in omega (arith, mul-le-mul_left w more)

  pub apart_slots : (i j : ℕ) → i ≢ j → i / e ≡ j / e → (place e w i + w ≤ place e w j) ⊎ (place e w j + w ≤ place e w i)
  apart_slots i j other same =
      let lows : i / e * e ≡ j / e * e = ap (λ (n : ℕ). n * e) same in
      elim (cases_lt (i - i / e * e) (j - j / e * e)) [
        | inl less ↦ inl (less_apart (i - i / e * e) (j - j / e * e) less)
        | inr more ↦ elim (cases_eq (j - j / e * e) (i - i / e * e)) [
          | inl is ↦ absurd (other (omega (arith, is, lows)))
          | inr not ↦ inr (less_apart (j - j / e * e) (i - i / e * e) (omega (arith, more, not)))
        ]
      ]

  -- the segment of a row is replaced
  module _ (segments : List (List ℕ)) (at : ℕ) (new : List ℕ) (inside : at / e < length segments) where
    pub slot_here : slot (set segments (at / e) new) e w at ≡ part new (place e w at) w
    slot_here = ap (λ (xs : List ℕ). part xs (place e w at) w) (get_or-set_same segments (at / e) new [] inside)

    module _ (kept : KeepsOthers (place e w at) w (segment_at segments (at / e)) new) where
      pub slot_other : (i : ℕ) → i ≢ at → length (slot segments e w i) ≡ w → slot (set segments (at / e) new) e w i ≡ slot segments e w i
      slot_other i other wide = elim (cases_eq (i / e) (at / e)) [
        | inl same ↦
            let was : segment_at segments (i / e) ≡ segment_at segments (at / e) = ap (segment_at segments) same in
            let now : segment_at (set segments (at / e) new) (i / e) ≡ new = ap (segment_at (set segments (at / e) new)) same ∙ get_or-set_same segments (at / e) new [] inside in
            ap (λ (xs : List ℕ). part xs (place e w i) w) now
            ∙ kept (place e w i) w (ap (λ (xs : List ℕ). length (part xs (place e w i) w)) (sym was) ∙ wide) (apart_slots i at other same)
            ∙ ap (λ (xs : List ℕ). part xs (place e w i) w) (sym was)
        | inr not ↦ ap (λ (xs : List ℕ). part xs (place e w i) w) (get_or-set_other segments (at / e) (i / e) new [] not)
      ]

  -- this many rows need this many segments
  pub within : (i many l : ℕ) → i < many → many ≤ l * e → i / e < l
  within i many l less enough = elim (cases_lt (i / e) l) [
    | inl below ↦ below
    | inr above ↦ absurd (omega (arith, mul-le-mul_left e above, less, enough))
  ]

  -- segments after the others
  pub slot_before : (segments more : List (List ℕ)) (i : ℕ) → i / e < length segments → slot (segments ++ more) e w i ≡ slot segments e w i
  slot_before segments more i inside = ap (λ (xs : List ℕ). part xs (place e w i) w) (get_or_append_left segments more [] (i / e) inside)

  -- and fewer
  pub slot_left : (segments : List (List ℕ)) (l i : ℕ) → i / e < l → slot (take l segments) e w i ≡ slot segments e w i
  slot_left segments l i inside = ap (λ (xs : List ℕ). part xs (place e w i) w) (get_or-take l segments (i / e) [] inside)

pub rows_long : (segments : List (List ℕ)) (e w many : ℕ) → length (rows_from segments e w many) ≡ many
rows_long segments e w many = length-map-range_with_len (λ (i : ℕ). row_in (slot segments e w i)) 0 many

pub rows_read : (segments : List (List ℕ)) (e w many i : ℕ) → i < many → row_at (rows_from segments e w many) i ≡ row_in (slot segments e w i)
rows_read segments e w many i below = get_or-map-range_with_len (λ (j : ℕ). row_in (slot segments e w j)) 0 many i i nobody below (omega arith)

-- a slot is not empty
pub has_segment : (segments : List (List ℕ)) (e w i : ℕ) → HoldsSlot (slot segments e w i) w → 0 < w
has_segment segments e w i holds = omega (arith, holds.wide, holds.holds.range)

module _ (was now : List (List ℕ)) (e w many : ℕ) where
  abbrev old : List KeptRow
  old = rows_from was e w many

  -- one row is replaced
  pub rows_set : (at : ℕ) (r : KeptRow) → at < many → row_in (slot now e w at) ≡ r → ((i : ℕ) → i < many → i ≢ at → slot now e w i ≡ slot was e w i) → rows_from now e w many ≡ set old at r
  rows_set at r inside here others = ext_get_or nobody _ _ (omega (arith, rows_long now e w many, length-set old at r, rows_long was e w many)) (λ i below.
      let within_many : i < many = omega (arith, below, rows_long now e w many) in
      rows_read now e w many i within_many ∙ elim (cases_eq i at) [
        | inl is ↦ ap (λ (n : ℕ). row_in (slot now e w n)) is ∙ here ∙ sym (ap (λ (n : ℕ). get_or (set old at r) n nobody) is ∙ get_or-set_same old at r nobody (omega (arith, inside, rows_long was e w many)))
        | inr other ↦ ap row_in (others i within_many other) ∙ sym (rows_read was e w many i within_many) ∙ sym (get_or-set_other old at i r nobody other)
      ])

  -- one row is added
  pub rows_pushed : (r : KeptRow) → row_in (slot now e w many) ≡ r → ((i : ℕ) → i < many → slot now e w i ≡ slot was e w i) → rows_from now e w (many + 1) ≡ old ++ r ∷ []
  rows_pushed r here others = ext_get_or nobody _ _ (omega (arith, rows_long now e w (many + 1), length_push old r, rows_long was e w many)) (λ i below.
      let within_more : i < many + 1 = omega (arith, below, rows_long now e w (many + 1)) in
      rows_read now e w (many + 1) i within_more ∙ elim (cases_lt i many) [
        | inl less ↦ ap row_in (others i less) ∙ sym (rows_read was e w many i less) ∙ sym (get_or_append_left old (r ∷ []) nobody i (omega (arith, less, rows_long was e w many)))
        | inr more ↦
            let is : i ≡ many = omega (arith, more, within_more) in
            ap (λ (n : ℕ). row_in (slot now e w n)) is ∙ here ∙ sym (get_or_push old r nobody i (omega (arith, is, rows_long was e w many)))
      ])

  -- one row is gone, and the last one took its place
  pub rows_less : (last at : ℕ) → many ≡ last + 1 → at ≤ last → (at < last → slot now e w at ≡ slot was e w last) → ((i : ℕ) → i < last → i ≢ at → slot now e w i ≡ slot was e w i)
      → rows_from now e w last ≡ swap_remove old at nobody
  rows_less last at is before here others =
      let long = rows_long was e w many in
      let inside : at < length old = omega (arith, long, is, before) in
      let ends : length old - 1 ≡ last = omega (arith, long, is) in
      ext_get_or nobody _ _ (omega (arith, rows_long now e w last, one_less old at nobody nobody inside, ends)) (λ i below.
      let less : i < last = omega (arith, below, rows_long now e w last) in
      rows_read now e w last i less ∙ elim (cases_eq i at) [
        | inl same ↦
            let at_less : at < last = omega (arith, less, same) in
            ap (λ (n : ℕ). row_in (slot now e w n)) same ∙ ap row_in (here at_less) ∙ sym (rows_read was e w many last (omega (arith, is)))
            ∙ ap (row_at old) (sym ends) ∙ sym (kept_moved old at nobody nobody inside (omega (arith, at_less, ends))) ∙ ap (λ (n : ℕ). get_or (swap_remove old at nobody) n nobody) (sym same)
        | inr other ↦ ap row_in (others i less other) ∙ sym (rows_read was e w many i (omega (arith, less, is))) ∙ sym (kept_else old at nobody nobody inside i (omega (arith, less, ends)) other)
      ])

  -- the content of slots
  pub hold_others : HoldRows was e w many → (at : ℕ) → HoldsSlot (slot now e w at) w → ((i : ℕ) → i < many → i ≢ at → slot now e w i ≡ slot was e w i) → HoldRows now e w many
  hold_others hold at here others i below = elim (cases_eq i at) [
    | inl is ↦ subst (λ (n : ℕ). HoldsSlot (slot now e w n) w) (sym is) here
    | inr other ↦ subst (λ (bytes : List ℕ). HoldsSlot bytes w) (sym (others i below other)) (hold i below)
  ]
