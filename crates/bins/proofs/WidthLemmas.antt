-- What is left after a write to a row of one width.
use Rattle.std.proofs.Common.{◌≡◌, ◌≢◌, ℕ, zero, suc, ◌+◌, ◌-◌, ◌*◌, ◌/◌, ◌^◌, ◌<◌, ◌≤◌, List, [], ◌∷◌, ◌++◌, length, get_or, set, take, refl, sym, ap, subst, ◌∙◌, inl, inr, arith}
use Rattle.std.proofs.lemmas.Bool.{cases_eq, cases_lt}
use Rattle.std.proofs.lemmas.List.{get_or_append_left, get_or_push, get_or_read, length-set, length_push, length-take-le, set_at, set-append_left}
use Rattle.std.proofs.Math.Nat.{mul-le-mul_left, pow-le-pow_right}
use Rattle.bins.specs.KeptRows.{HoldsRow, KeptRow, row_in}
use Rattle.bins.specs.Segments.{AreSegments, HoldRows, HoldsSlot, IsClosed, IsOpened, KeepsOthers, part, rows_from, slot}
use Rattle.bins.proofs.SegmentLemmas.{inside_part}
use Rattle.bins.proofs.SlotLemmas.{has_segment, hold_others, place, rows_pushed, rows_set, slot_before, slot_here, slot_left, slot_other, within}

pub each_many : (shift : ℕ) → 9 ≤ shift → 512 ≤ 2 ^ shift
each_many shift small = pow-le-pow_right {n = 2} (omega arith) {i = 9} {j = shift} small

-- a few segments for the rows
pub few_segments : (l e many : ℕ) → 512 ≤ e → l * e < many + e → l * 512 < many + 512
few_segments zero e many wide needed = omega arith
few_segments (suc l) e many wide needed = let more = mul-le-mul_left l wide in omega (arith, more, needed)

-- the bytes of a row that there is
module _ (segments : List (List ℕ)) (e w i index start : ℕ) (bytes : List ℕ) (holds : HoldsSlot (slot segments e w i) w)
    (inside : index < length segments) (idx : index ≡ i / e) (st : start ≡ place e w i) (read : bytes ≡ get_or segments index bytes) where
  pub same_bytes : bytes ≡ get_or segments (i / e) []
  same_bytes = get_or_read segments index bytes inside read [] ∙ ap (λ (n : ℕ). get_or segments n []) idx

  pub same_slot : part bytes start w ≡ slot segments e w i
  same_slot = (λ j. part (same_bytes j) (st j) w)

  pub bytes_inside : start + w ≤ length bytes
  bytes_inside = inside_part bytes start w (has_segment segments e w i holds) (ap length same_slot ∙ holds.wide)

  pub bytes_hold : HoldsRow (part bytes start w)
  bytes_hold = subst HoldsRow (sym same_slot) holds.holds

-- one row is replaced
pub record Written (segments : List (List ℕ)) (shift most w many at index : ℕ) (new : List ℕ) (r : KeptRow) : Type 0 where
  pub all : AreSegments (set segments index new) shift most w many
  pub rows : rows_from (set segments index new) (2 ^ shift) w many ≡ set (rows_from segments (2 ^ shift) w many) at r

module _ (segments : List (List ℕ)) (shift most w many : ℕ) (inv : AreSegments segments shift most w many) where
  abbrev e : ℕ
  e = 2 ^ shift

  some : 0 < e
  some = let m = each_many shift inv.small in omega (arith, m)

  pub row_inside : (at : ℕ) → at < many → at / e < length segments
  row_inside at below = within e w some at many (length segments) below inv.enough

  pub few_inside : length segments * 512 < many + 512
  few_inside = few_segments (length segments) e many (each_many shift inv.small) inv.needed

  module _ (at : ℕ) (new : List ℕ) (r : KeptRow) (below : at < many)
      (holds : HoldsSlot (part new (place e w at) w) w) (row : row_in (part new (place e w at) w) ≡ r)
      (others : KeepsOthers (place e w at) w (get_or segments (at / e) []) new) where
    abbrev now : List (List ℕ)
    now = set segments (at / e) new

    here : slot now e w at ≡ part new (place e w at) w
    here = slot_here e w some segments at new (row_inside at below)

    elsewhere : (i : ℕ) → i < many → i ≢ at → slot now e w i ≡ slot segments e w i
    elsewhere i less other = slot_other e w some segments at new (row_inside at below) others i other (inv.rows i less).wide

    pub written_at : Written segments shift most w many at (at / e) new r
    written_at = record {
      all = record {
        stride_is = inv.stride_is;
        small = inv.small;
        bounded = inv.bounded;
        shape = inv.shape;
        enough = omega (arith, inv.enough, ap (λ (n : ℕ). n * e) (length-set segments (at / e) new));
        needed = omega (arith, inv.needed, ap (λ (n : ℕ). n * e) (length-set segments (at / e) new));
        rows = hold_others segments now e w many inv.rows at (subst (λ (b : List ℕ). HoldsSlot b w) (sym here) holds) elsewhere;
      };
      rows = rows_set segments now e w many at r below (ap row_in here ∙ row) elsewhere;
    }

    pub written_to : (index : ℕ) → index ≡ at / e → Written segments shift most w many at index new r
    written_to index idx = subst (λ (n : ℕ). Written segments shift most w many at n new r) (sym idx) written_at

-- a row is added
pub record Added (old segments : List (List ℕ)) (shift most w many index : ℕ) (new : List ℕ) (r : KeptRow) : Type 0 where
  pub all : AreSegments (set segments index new) shift most w (many + 1)
  pub rows : rows_from (set segments index new) (2 ^ shift) w (many + 1) ≡ rows_from old (2 ^ shift) w many ++ r ∷ []

module _ (old segments : List (List ℕ)) (shift most w many : ℕ) (inv : AreSegments old shift most w many) (opened : IsOpened old segments (2 ^ shift) many) where
  abbrev each : ℕ
  each = 2 ^ shift

  any : 0 < each
  any = let m = each_many shift inv.small in omega (arith, m)

  pub next_inside : many / each < length segments
  next_inside = within each w any many (many + 1) (length segments) (omega arith) (omega (arith, opened.room))

  module _ (new : List ℕ) (r : KeptRow)
      (holds : HoldsSlot (part new (place each w many) w) w) (row : row_in (part new (place each w many) w) ≡ r)
      (others : KeepsOthers (place each w many) w (get_or segments (many / each) []) new) where
    abbrev after : List (List ℕ)
    after = set segments (many / each) new

    last_slot : slot after each w many ≡ part new (place each w many) w
    last_slot = slot_here each w any segments many new next_inside

    before : (i : ℕ) → i < many → slot after each w i ≡ slot old each w i
    before i less =
        slot_other each w any segments many new next_inside others i (λ is. absurd (omega (arith, less, is))) (ap length (opened.slots w i less) ∙ (inv.rows i less).wide)
        ∙ opened.slots w i less

    pub added_at : Added old segments shift most w many (many / each) new r
    added_at = record {
      all = record {
        stride_is = inv.stride_is;
        small = inv.small;
        bounded = inv.bounded;
        shape = inv.shape;
        enough = omega (arith, opened.room, ap (λ (n : ℕ). n * each) (length-set segments (many / each) new));
        needed = omega (arith, opened.needed, ap (λ (n : ℕ). n * each) (length-set segments (many / each) new));
        rows = λ i less. elim (cases_lt i many) [
          | inl below ↦ subst (λ (b : List ℕ). HoldsSlot b w) (sym (before i below)) (inv.rows i below)
          | inr above ↦
              let is : i ≡ many = omega (arith, less, above) in
              subst (λ (n : ℕ). HoldsSlot (slot after each w n) w) (sym is) (subst (λ (b : List ℕ). HoldsSlot b w) (sym last_slot) holds)
        ];
      };
      rows = rows_pushed old after each w many r (ap row_in last_slot ∙ row) before;
    }

    pub added_to : (index : ℕ) → index ≡ many / each → Added old segments shift most w many index new r
    added_to index idx = subst (λ (n : ℕ). Added old segments shift most w many n new r) (sym idx) added_at

-- segments are opened and closed
module _ (old : List (List ℕ)) (each : ℕ) (positive : 0 < each) where
  abbrev l : ℕ
  l = length old

  pub less_segments : (many cap : ℕ) → l * each ≤ many → many < cap * each → l < cap
  less_segments many cap full limit = elim (cases_lt l cap) [
    | inl below ↦ below
    | inr above ↦ absurd (omega (arith, mul-le-mul_left each above, full, limit))
  ]

  pub opened_more : (b : List ℕ) (many : ℕ) → many ≤ l * each → l * each < many + each → many / each ≡ l → IsOpened old (old ++ b ∷ []) each many
  opened_more b many enough needed full =
      let long : length (old ++ b ∷ []) * each ≡ l * each + each = let push = length_push old b in ap (λ (n : ℕ). n * each) push ∙ omega arith in
      let all : l * each ≤ many = let is = ap (λ (n : ℕ). n * each) full in omega (arith, is) in
      record {
        room = omega (arith, long, enough, positive);
        needed = omega (arith, long, all);
        slots = λ stride i less. slot_before each stride positive old (b ∷ []) i (within each stride positive i many l less enough);
      }

  pub opened_same : (many : ℕ) → many ≤ l * each → l * each < many + each → many / each ≢ l → IsOpened old old each many
  opened_same many enough needed other = record {
    room = elim (cases_lt (many / each) l) [
      | inl below ↦ let step : many / each + 1 ≤ l = omega (arith, below) in omega (arith, mul-le-mul_left each step)
      | inr above ↦
          let more : l + 1 ≤ many / each = omega (arith, above, other) in
          absurd (omega (arith, mul-le-mul_left each more, enough, positive))
    ];
    needed = omega (arith, needed);
    slots = λ stride i less. refl;
  }

  -- the number of segments if a row was taken from the last
  pub last_segment : (last : ℕ) → last < l * each → l * each ≤ last + each → l ≡ last / each + 1
  last_segment last enough needed = elim (cases_lt (last / each) l) [
    | inl below ↦ elim (cases_lt (last / each + 1) l) [
      | inl more ↦ let step : last / each + 2 ≤ l = omega (arith, more) in absurd (omega (arith, mul-le-mul_left each step, needed))
      | inr less ↦ omega (arith, below, less)
    ]
    | inr above ↦ absurd (omega (arith, mul-le-mul_left each above, enough))
  ]

  pub closed_less : (last : ℕ) → last < l * each → l * each ≤ last + each → last ≡ last / each * each → IsClosed old (take (l - 1) old) each last
  closed_less last enough needed edge =
      let one = last_segment last enough needed in
      let long : length (take (l - 1) old) ≡ last / each = length-take-le (l - 1) old (omega arith) ∙ omega (arith, one) in
      let size : length (take (l - 1) old) * each ≡ last = ap (λ (n : ℕ). n * each) long ∙ sym edge in
      record {
        enough = omega (arith, size);
        needed = omega (arith, size, positive);
        slots = λ stride i less. slot_left each stride positive old (l - 1) i (within each stride positive i last (l - 1) less (omega (arith, ap (λ (n : ℕ). n * each) (length-take-le (l - 1) old (omega arith)), size)));
      }

  pub closed_same : (last : ℕ) → last < l * each → l * each ≤ last + each → last ≢ last / each * each → IsClosed old old each last
  closed_same last enough needed other =
      let one = last_segment last enough needed in
      let size : l * each ≡ last / each * each + each = ap (λ (n : ℕ). n * each) one ∙ omega arith in
      record {
        enough = omega (arith, enough);
        needed = omega (arith, size, other, positive);
        slots = λ stride i less. refl;
      }

-- what is left after the last row took a place
pub closed_all : (segments copied left : List (List ℕ)) (shift most w many last at : ℕ) → AreSegments segments shift most w many → last < many
    → slot copied (2 ^ shift) w at ≡ slot segments (2 ^ shift) w last → ((i : ℕ) → i < last → i ≢ at → slot copied (2 ^ shift) w i ≡ slot segments (2 ^ shift) w i)
    → IsClosed copied left (2 ^ shift) last → AreSegments left shift most w last
closed_all segments copied left shift most w many last at inv less moved others closed = record {
  stride_is = inv.stride_is;
  small = inv.small;
  bounded = inv.bounded;
  shape = inv.shape;
  enough = closed.enough;
  needed = closed.needed;
  rows = λ i below. subst (λ (b : List ℕ). HoldsSlot b w) (sym (closed.slots w i below)) (elim (cases_eq i at) [
    | inl is ↦ subst (λ (b : List ℕ). HoldsSlot b w) (sym (ap (slot copied (2 ^ shift) w) is ∙ moved)) (inv.rows last less)
    | inr other ↦ subst (λ (b : List ℕ). HoldsSlot b w) (sym (others i below other)) (inv.rows i (omega (arith, below, less)))
  ]);
}

-- a row is copied to the place of another
module _ (segments : List (List ℕ)) (each w last at : ℕ) (positive : 0 < each) (new : List ℕ) (inside : at / each < length segments)
    (here : part new (place each w at) w ≡ slot segments each w last) (others : KeepsOthers (place each w at) w (get_or segments (at / each) []) new)
    (hold : HoldRows segments each w (last + 1)) where
  pub copied_here : slot (set segments (at / each) new) each w at ≡ slot segments each w last
  copied_here = slot_here each w positive segments at new inside ∙ here

  pub copied_others : (i : ℕ) → i < last → i ≢ at → slot (set segments (at / each) new) each w i ≡ slot segments each w i
  copied_others i less other = slot_other each w positive segments at new inside others i other (hold i (omega (arith, less))).wide

-- the last row was copied to the place of another
pub record Copied (segments new : List (List ℕ)) (each w last at : ℕ) : Type 0 where
  pub row : slot new each w at ≡ slot segments each w last
  pub others : (i : ℕ) → i < last → i ≢ at → slot new each w i ≡ slot segments each w i

module _ (segments front : List (List ℕ)) (end : List ℕ) (each w last at : ℕ) (positive : 0 < each) (is : segments ≡ front ++ end ∷ []) (many : last / each + 1 ≡ length segments)
    (before : at ≤ last) (hold : HoldRows segments each w (last + 1)) where
  front_long : length front ≡ last / each
  front_long = omega (arith, many, ap length is, length_push front end)

  last_bytes : get_or segments (last / each) [] ≡ end
  last_bytes = ap (λ (xs : List (List ℕ)). get_or xs (last / each) []) is ∙ get_or_push front end [] (last / each) front_long

  last_part : part end (place each w last) w ≡ slot segments each w last
  last_part = ap (λ (b : List ℕ). part b (place each w last) w) (sym last_bytes)

  not_after : at / each ≤ last / each
  not_after = elim (cases_lt (last / each) (at / each)) [
    | inl after ↦ let step : last / each + 1 ≤ at / each = omega (arith, after) in absurd (omega (arith, mul-le-mul_left each step, before, positive))
    | inr fine ↦ fine
  ]

  pub copied_same : (b : List ℕ) (new : List (List ℕ)) → at / each ≡ length front → part b (place each w at) w ≡ part end (place each w last) w
      → KeepsOthers (place each w at) w end b → new ≡ front ++ b ∷ [] → Copied segments new each w last at
  copied_same b new same here others now =
      let inside : at / each < length segments = omega (arith, not_after, many) in
      let set_is : new ≡ set segments (at / each) b = now ∙ sym (ap (λ (xs : List (List ℕ)). set xs (at / each) b) is ∙ set_at front end [] b (at / each) (sym same)) in
      let read : end ≡ get_or segments (at / each) [] = sym last_bytes ∙ ap (λ (n : ℕ). get_or segments n []) (sym front_long ∙ sym same) in
      let kept = subst (λ (xs : List ℕ). KeepsOthers (place each w at) w xs b) read others in
      let row = copied_here segments each w last at positive b inside (here ∙ last_part) kept hold in
      let rest = copied_others segments each w last at positive b inside (here ∙ last_part) kept hold in
      subst (λ (xs : List (List ℕ)). Copied segments xs each w last at) (sym set_is) (record { row = row; others = rest })

  pub copied_else : (b : List ℕ) (new : List (List ℕ)) → (at / each ≡ length front → ⊥) → part b (place each w at) w ≡ part end (place each w last) w
      → KeepsOthers (place each w at) w (get_or front (at / each) []) b → new ≡ set front (at / each) b ++ end ∷ [] → Copied segments new each w last at
  copied_else b new other here others now =
      let inside : at / each < length segments = omega (arith, not_after, many) in
      let less : at / each < length front = omega (arith, not_after, front_long, other) in
      let set_is : new ≡ set segments (at / each) b = now ∙ sym (ap (λ (xs : List (List ℕ)). set xs (at / each) b) is ∙ set-append_left front (end ∷ []) (at / each) b less) in
      let read : get_or front (at / each) [] ≡ get_or segments (at / each) [] = sym (ap (λ (xs : List (List ℕ)). get_or xs (at / each) []) is ∙ get_or_append_left front (end ∷ []) [] (at / each) less) in
      let kept = subst (λ (xs : List ℕ). KeepsOthers (place each w at) w xs b) read others in
      let row = copied_here segments each w last at positive b inside (here ∙ last_part) kept hold in
      let rest = copied_others segments each w last at positive b inside (here ∙ last_part) kept hold in
      subst (λ (xs : List (List ℕ)). Copied segments xs each w last at) (sym set_is) (record { row = row; others = rest })

  -- a segment before the last
  pub front_inside : (at / each ≡ length front → ⊥) → at / each < length front
  front_inside other = omega (arith, not_after, front_long, other)
