-- The room that is left after the rows of one width change.
use Rattle.std.proofs.Common.{◌≡◌, ◌≢◌, ℕ, ◌+◌, ◌-◌, ◌<◌, ◌≤◌, Bool, true, false, cond, List, [], length, get_or, set, refl, sym, ap, subst, ◌∙◌, inl, inr, arith, get_or-set_same, get_or-set_other}
use Rattle.std.specs.Prelude.{vec_capacity}
use Rattle.std.proofs.lemmas.Bool.{cases_Bool, cases_eq, cases_lt, eqb-true, eq-eqb}
use Rattle.std.proofs.lemmas.List.{get_or_past, get_or_read, length-set}
use Rattle.bins.specs.declared.raw_rows.RawRows.{RawRows}
use Rattle.bins.specs.declared.pool.TheConstants.{WIDTHS}
use Rattle.bins.specs.declared.locations.TheConstants.{MOST_ROWS, VACANT_CODE}
use Rattle.bins.specs.declared.locations.Width.{Width}
use Rattle.bins.specs.declared.locations.Location.{Location}
use Rattle.bins.specs.declared.locations.Location.TheVariants.{In}
use Rattle.bins.specs.KeptRows.{AreRows, KeptRow, Lists, is_same_width, location_at, with_rows}
use Rattle.bins.specs.Segments.{AreFew, KeptWidth, no_width}
use Rattle.bpf_model.specs.declared.limits.TheConstants.{KEY_BYTES, VALUE_BYTES}
use Rattle.bins.specs.Rows.{AreWider, AreWidths, IsKept, IsRoomy, segments_for, used, width_at}
use Rattle.bins.proofs.PoolLemmas.{total_changed, total_part, total_same, total_zero}
use Rattle.bins.proofs.RowLemmas.{not_vacant}

abbrev pub lists_of : List KeptWidth → Lists
lists_of widths = λ width. (width_at widths width.step).rows

-- a width that has rows is one of all
pub width_inside : (widths : List KeptWidth) (step at : ℕ) → at < length (width_at widths step).rows → step < length widths
width_inside widths step at below = elim (cases_lt step (length widths)) [
  | inl inside ↦ inside
  | inr beyond ↦
      let none : length (width_at widths step).rows ≡ 0 = ap (λ (w : KeptWidth). length w.rows) (get_or_past widths step no_width beyond) in
      absurd (omega (arith, below, none))
]

pub read_width : (widths : List KeptWidth) (step : ℕ) (w : KeptWidth) → step < length widths → w ≡ get_or widths step w → w ≡ width_at widths step
read_width widths step w inside value = get_or_read widths step w inside value no_width

-- the segments of one width are some of all
pub used_part : (widths : List KeptWidth) (step : ℕ) → step < length widths → length widths ≡ WIDTHS → (width_at widths step).segments ≤ used widths
used_part widths step inside all = total_part WIDTHS step (λ n. (width_at widths n).segments) (omega (arith, inside, all))

module _ (widths : List KeptWidth) (k : ℕ) (w : KeptWidth) (inside : k < length widths) where
  abbrev now : List KeptWidth
  now = set widths k w

  pub width_here : width_at now k ≡ w
  width_here = get_or-set_same widths k w no_width inside

  pub width_else : (step : ℕ) → step ≢ k → width_at now step ≡ width_at widths step
  width_else step other = get_or-set_other widths k step w no_width other

  -- if a property holds for the new width and held for each width, it holds for each width now
  pub each_width : (P : KeptWidth → Type 0) → P w → (step : ℕ) → P (width_at widths step) → P (width_at now step)
  each_width P new step old = elim (cases_eq step k) [
    | inl is ↦ subst (λ (n : ℕ). P (width_at now n)) (sym is) (subst P (sym width_here) new)
    | inr other ↦ subst P (sym (width_else step other)) old
  ]

  pub used_now : length widths ≡ WIDTHS → used now + (width_at widths k).segments ≡ used widths + w.segments
  used_now all =
      let changed = total_changed WIDTHS k (λ step. (width_at widths step).segments) (λ step. (width_at now step).segments) (omega (arith, inside, all))
      (λ step other. ap (λ (v : KeptWidth). v.segments) (width_else step other)) in
      let here : (width_at now k).segments ≡ w.segments = ap (λ (v : KeptWidth). v.segments) width_here in
      omega (arith, changed, here)

differ : (b : Bool) → b ≡ true → b ≡ false → ⊥
differ b one two = cc

-- the rows of one width are replaced
pub lists_set : (widths : List KeptWidth) (k : Width) (w : KeptWidth) (rows : List KeptRow) → k.step < length widths → w.rows ≡ rows → lists_of (set widths k.step w) ≡ with_rows (lists_of widths) k rows
lists_set widths k w rows inside is =
    let each : (j : Width) → lists_of (set widths k.step w) j ≡ with_rows (lists_of widths) k rows j = λ j. elim (cases_Bool (is_same_width k j)) [
      | inl same ↦
          let steps : k.step ≡ j.step = eqb-true k.step j.step same in
          ap (λ (n : ℕ). (width_at (set widths k.step w) n).rows) (sym steps) ∙ ap (λ (v : KeptWidth). v.rows) (width_here widths k.step w inside) ∙ is
          ∙ sym (ap (λ (b : Bool). cond b rows (lists_of widths j)) same)
      | inr not ↦
          let other : j.step ≢ k.step = λ e. differ (is_same_width k j) (eq-eqb k.step j.step (sym e)) not in
          ap (λ (v : KeptWidth). v.rows) (width_else widths k.step w inside j.step other) ∙ sym (ap (λ (b : Bool). cond b rows (lists_of widths j)) not)
    ] in
    λ i j. each j i

-- a position has room, so the lists are there
pub opened : (raw : RawRows) → IsRoomy raw → (p : ℕ) → p < length raw.locations.items → AreWidths raw.widths.items
opened raw r p inside = r.ready (r.room.listed (omega (arith, inside, r.inside)))

-- a width that has rows is one of a few
pub few_widths : (raw : RawRows) → IsRoomy raw → (step at : ℕ) → at < length (width_at raw.widths.items step).rows → step < VACANT_CODE
few_widths raw r step at below =
    let inside = width_inside raw.widths.items step at below in
    let all = (r.ready (omega (arith, inside))).all in
    omega (arith, inside, all)

-- the room of rows whose locations are replaced
pub roomy_as : (old new : RawRows) → new.widths ≡ old.widths → new.free ≡ old.free → new.room ≡ old.room → vec_capacity new.locations ≡ vec_capacity old.locations
    → length new.locations.items ≤ old.room → IsRoomy old → IsRoomy new
roomy_as old new widths free room wide less r =
    let items : new.widths.items ≡ old.widths.items = λ i. (widths i).items in
    let frees : length new.free.items ≡ length old.free.items = λ i. length (free i).items in
    let list : vec_capacity new.free ≡ vec_capacity old.free = λ i. vec_capacity (free i) in
    let same_room : segments_for new.room ≡ segments_for old.room = ap segments_for room in
    record {
      inside = omega (arith, less, room);
      room = record {
        near = omega (arith, r.room.near, room);
        locations = omega (arith, r.room.locations, room, wide);
        listed = λ some. subst (λ (ws : List KeptWidth). 0 < length ws) (sym items) (r.room.listed (omega (arith, some, room)));
        limits = subst (λ (ws : List KeptWidth). (step : ℕ) → step < length ws → new.room ≤ (width_at ws step).limit) (sym items) (λ step below. let enough = r.room.limits step below in omega (arith, enough, room));
        segments = subst (λ (ws : List KeptWidth). segments_for new.room ≤ used ws + length new.free.items) (sym items) (omega (arith, same_room, frees, r.room.segments));
      };
      ready = subst (λ (ws : List KeptWidth). 0 < length ws → AreWidths ws) (sym items) r.ready;
      few = subst (λ (ws : List KeptWidth). (step : ℕ) → AreFew (width_at ws step)) (sym items) r.few;
      pool = subst (λ (ws : List KeptWidth). used ws + length new.free.items ≤ vec_capacity new.free) (sym items) (omega (arith, frees, list, r.pool));
    }

-- the rows of one width change, and segments go from the free ones to it or back
module _ (old new : RawRows) (r : IsRoomy old) (k : ℕ) (w : KeptWidth) (inside : k < length old.widths.items) (widths : new.widths.items ≡ set old.widths.items k w)
    (long : length new.locations.items ≡ length old.locations.items) (wide : vec_capacity new.locations ≡ vec_capacity old.locations) (room : new.room ≡ old.room) (most : w.most ≡ (width_at old.widths.items k).most) (limit : w.limit ≡ (width_at old.widths.items k).limit) (few : AreFew w)
    (segments : w.segments + length new.free.items ≡ (width_at old.widths.items k).segments + length old.free.items) (list : vec_capacity new.free ≡ vec_capacity old.free) where
  abbrev was : List KeptWidth
  was = old.widths.items

  abbrev will : List KeptWidth
  will = set was k w

  ready : AreWidths was
  ready = r.ready (omega (arith, inside))

  same_use : used will + length new.free.items ≡ used was + length old.free.items
  same_use = let u = used_now was k w inside ready.all in omega (arith, u, segments)

  widest : KEY_BYTES + VALUE_BYTES ≤ (width_at will (WIDTHS - 1)).most
  widest = elim (cases_eq (WIDTHS - 1) k) [
    | inl is ↦
        let here : (width_at will (WIDTHS - 1)).most ≡ w.most = ap (λ (n : ℕ). (width_at will n).most) is ∙ ap (λ (v : KeptWidth). v.most) (width_here was k w inside) in
        let there : (width_at was k).most ≡ (width_at was (WIDTHS - 1)).most = ap (λ (n : ℕ). (width_at was n).most) (sym is) in
        omega (arith, here, there, most, ready.widest)
    | inr other ↦ let same : (width_at will (WIDTHS - 1)).most ≡ (width_at was (WIDTHS - 1)).most = ap (λ (v : KeptWidth). v.most) (width_else was k w inside (WIDTHS - 1) other) in omega (arith, same, ready.widest)
  ]

  limits : (step : ℕ) → step < length will → new.room ≤ (width_at will step).limit
  limits step below = elim (cases_eq step k) [
    | inl is ↦
        let here : (width_at will step).limit ≡ w.limit = ap (λ (n : ℕ). (width_at will n).limit) is ∙ ap (λ (v : KeptWidth). v.limit) (width_here was k w inside) in
        let enough = r.room.limits k inside in
        omega (arith, here, limit, enough, room)
    | inr other ↦
        let same : (width_at will step).limit ≡ (width_at was step).limit = ap (λ (v : KeptWidth). v.limit) (width_else was k w inside step other) in
        let enough = r.room.limits step (omega (arith, below, length-set was k w)) in
        omega (arith, same, enough, room)
  ]

  same_room : segments_for new.room ≡ segments_for old.room
  same_room = ap segments_for room

  pub roomy_set : IsRoomy new
  roomy_set = record {
    inside = omega (arith, r.inside, room, long);
    room = record {
      near = omega (arith, r.room.near, room);
      locations = omega (arith, r.room.locations, room, wide);
      listed = λ some. omega (arith, inside, ap length widths, length-set was k w);
      limits = λ step below. subst (λ (ws : List KeptWidth). new.room ≤ (width_at ws step).limit) (sym widths) (limits step (omega (arith, below, ap length widths)));
      segments = subst (λ (ws : List KeptWidth). segments_for new.room ≤ used ws + length new.free.items) (sym widths) (omega (arith, same_room, same_use, r.room.segments));
    };
    ready = λ some. subst AreWidths (sym widths) (record { all = length-set was k w ∙ ready.all; widest = widest });
    few = λ step. subst (λ (ws : List KeptWidth). AreFew (width_at ws step)) (sym widths) (each_width was k w inside AreFew few step (r.few step));
    pool = subst (λ (ws : List KeptWidth). used ws + length new.free.items ≤ vec_capacity new.free) (sym widths) (omega (arith, same_use, list, r.pool));
  }

-- lists that may have more room
pub same_used : (old new : List KeptWidth) → AreWider old new → used new ≡ used old
same_used old new wider = total_same WIDTHS (λ step. (width_at new step).segments) (λ step. (width_at old step).segments) wider.segments

pub same_lists : (old new : List KeptWidth) → AreWider old new → lists_of new ≡ lists_of old
same_lists old new wider = λ i width. wider.rows width.step i

pub wider_refl : (widths : List KeptWidth) → AreWider widths widths
wider_refl widths = record { many = refl; rows = λ step. refl; most = λ step. refl; segments = λ step. refl; limit = λ step. omega arith }

pub wider_trans : (one two three : List KeptWidth) → AreWider one two → AreWider two three → AreWider one three
wider_trans one two three a b = record {
  many = b.many ∙ a.many;
  rows = λ step. b.rows step ∙ a.rows step;
  most = λ step. b.most step ∙ a.most step;
  segments = λ step. b.segments step ∙ a.segments step;
  limit = λ step. let x = a.limit step in let y = b.limit step in omega (arith, x, y);
}

-- the list of one width may have more room
pub wider_set : (widths : List KeptWidth) (k : ℕ) (w : KeptWidth) → k < length widths → w.rows ≡ (width_at widths k).rows → w.most ≡ (width_at widths k).most → w.segments ≡ (width_at widths k).segments
    → (width_at widths k).limit ≤ w.limit → AreWider widths (set widths k w)
wider_set widths k w inside rows most segments limit =
    let each : (P : KeptWidth → KeptWidth → Type 0) → ((v : KeptWidth) → P v v) → P (width_at widths k) w → (step : ℕ) → P (width_at widths step) (width_at (set widths k w) step) = λ P same new step. elim (cases_eq step k) [
      | inl is ↦ subst (λ (n : ℕ). P (width_at widths n) (width_at (set widths k w) n)) (sym is) (subst (P (width_at widths k)) (sym (width_here widths k w inside)) new)
      | inr other ↦ subst (P (width_at widths step)) (sym (width_else widths k w inside step other)) (same (width_at widths step))
    ] in
    record {
      many = length-set widths k w;
      rows = each (λ old new. new.rows ≡ old.rows) (λ v. refl) rows;
      most = each (λ old new. new.most ≡ old.most) (λ v. refl) most;
      segments = each (λ old new. new.segments ≡ old.segments) (λ v. refl) segments;
      limit = each (λ old new. old.limit ≤ new.limit) (λ v. omega arith) limit;
    }

-- more room than before
module _ (old new : RawRows) (r : IsRoomy old) (wider : AreWider old.widths.items new.widths.items)
    (long : length new.locations.items ≡ length old.locations.items) (cap : vec_capacity old.locations ≤ vec_capacity new.locations)
    (frees : length old.free.items ≤ length new.free.items) (pool : used old.widths.items + length new.free.items ≤ vec_capacity new.free) where
  used_same : used new.widths.items ≡ used old.widths.items
  used_same = same_used old.widths.items new.widths.items wider

  widths_same : AreWidths old.widths.items → AreWidths new.widths.items
  widths_same w = record { all = wider.many ∙ w.all; widest = let most = wider.most (WIDTHS - 1) in omega (arith, w.widest, most) }

  few_same : (step : ℕ) → AreFew (width_at new.widths.items step)
  few_same step = let f = (r.few step).each in let s = wider.segments step in let m = ap (λ (rows : List KeptRow). length rows) (wider.rows step) in record { each = omega (arith, f, s, m) }

  pub roomy_more : new.room ≡ old.room → IsRoomy new
  roomy_more room =
      let same : segments_for new.room ≡ segments_for old.room = ap segments_for room in
      record {
        inside = omega (arith, r.inside, long, room);
        room = record {
          near = omega (arith, r.room.near, room);
          locations = omega (arith, r.room.locations, cap, room);
          listed = λ some. let before = r.room.listed (omega (arith, some, room)) in omega (arith, before, wider.many);
          limits = λ step below. let before = r.room.limits step (omega (arith, below, wider.many)) in let more = wider.limit step in omega (arith, before, more, room);
          segments = omega (arith, r.room.segments, same, used_same, frees);
        };
        ready = λ some. widths_same (r.ready (omega (arith, some, wider.many)));
        few = few_same;
        pool = omega (arith, pool, used_same);
      }

  pub roomy_grown : length new.locations.items ≤ new.room → new.room ≤ MOST_ROWS → new.room ≤ vec_capacity new.locations → AreWidths old.widths.items
      → ((step : ℕ) → step < length new.widths.items → new.room ≤ (width_at new.widths.items step).limit) → segments_for new.room ≤ used old.widths.items + length new.free.items → IsRoomy new
  roomy_grown inside near locations widths limits enough = record {
    inside = inside;
    room = record {
      near = near;
      locations = locations;
      listed = λ some. let all = (widths_same widths).all in omega (arith, all);
      limits = limits;
      segments = omega (arith, enough, used_same);
    };
    ready = λ some. widths_same widths;
    few = few_same;
    pool = omega (arith, pool, used_same);
  }

-- less room, and fewer free segments
pub roomy_less : (old new : RawRows) → IsRoomy old → new.widths ≡ old.widths → vec_capacity new.locations ≡ vec_capacity old.locations → length new.locations.items ≤ new.room → new.room ≤ old.room
    → segments_for new.room ≤ used old.widths.items + length new.free.items → length new.free.items ≤ length old.free.items → vec_capacity new.free ≡ vec_capacity old.free → IsRoomy new
roomy_less old new r widths wide inside less enough fewer list =
    let items : new.widths.items ≡ old.widths.items = λ i. (widths i).items in
    record {
      inside = inside;
      room = record {
        near = omega (arith, r.room.near, less);
        locations = omega (arith, r.room.locations, less, wide);
        listed = λ some. subst (λ (ws : List KeptWidth). 0 < length ws) (sym items) (r.room.listed (omega (arith, some, less)));
        limits = subst (λ (ws : List KeptWidth). (step : ℕ) → step < length ws → new.room ≤ (width_at ws step).limit) (sym items) (λ step below. let before = r.room.limits step below in omega (arith, before, less));
        segments = subst (λ (ws : List KeptWidth). segments_for new.room ≤ used ws + length new.free.items) (sym items) enough;
      };
      ready = subst (λ (ws : List KeptWidth). 0 < length ws → AreWidths ws) (sym items) r.ready;
      few = subst (λ (ws : List KeptWidth). (step : ℕ) → AreFew (width_at ws step)) (sym items) r.few;
      pool = subst (λ (ws : List KeptWidth). used ws + length new.free.items ≤ vec_capacity new.free) (sym items) (omega (arith, r.pool, fewer, list));
    }

-- the list of one width was asked for more room
module _ (first widths : List KeptWidth) (k many : ℕ) (w new : KeptWidth) (wider : AreWider first widths) (inside : k < length widths) (read : w ≡ get_or widths k w)
    (rows : new.rows ≡ w.rows) (most : new.most ≡ w.most) (segments : new.segments ≡ w.segments) (limit : w.limit ≤ new.limit) where
  seen : w ≡ width_at widths k
  seen = read_width widths k w inside read

  pub wider_step : AreWider first (set widths k new)
  wider_step = wider_trans first widths (set widths k new) wider (wider_set widths k new inside
      (rows ∙ ap (λ (v : KeptWidth). v.rows) seen) (most ∙ ap (λ (v : KeptWidth). v.most) seen) (segments ∙ ap (λ (v : KeptWidth). v.segments) seen)
      (let same = ap (λ (v : KeptWidth). v.limit) seen in omega (arith, limit, same)))

  pub room_step : ((step : ℕ) → step < k → many ≤ (width_at widths step).limit) → many ≤ new.limit → (step : ℕ) → step < k + 1 → many ≤ (width_at (set widths k new) step).limit
  room_step before here step below = elim (cases_eq step k) [
    | inl is ↦ let same : (width_at (set widths k new) step).limit ≡ new.limit = ap (λ (n : ℕ). (width_at (set widths k new) n).limit) is ∙ ap (λ (v : KeptWidth). v.limit) (width_here widths k new inside) in omega (arith, same, here)
    | inr other ↦
        let same : (width_at (set widths k new) step).limit ≡ (width_at widths step).limit = ap (λ (v : KeptWidth). v.limit) (width_else widths k new inside step other) in
        let old = before step (omega (arith, below, other)) in
        omega (arith, same, old)
  ]

nothing_named : (width : Width) (p i : ℕ) → location_at [] p ≡ In width i → ⊥
nothing_named width p i e = not_vacant width (location_at [] p) i refl e

-- no rows
no_rows : AreRows [] (lists_of [])
no_rows = record {
  matched = λ width. record { named = λ p i e. absurd (nothing_named width p i e); owned = λ i below. absurd (omega (arith, below)); counted = refl };
  few = omega arith;
}

pub kept_new : (raw : RawRows) → raw.locations.items ≡ [] → raw.widths.items ≡ [] → raw.free.items ≡ [] → raw.room ≡ 0 → IsKept raw
kept_new raw locations widths free none =
    let used_none : used raw.widths.items ≡ 0 = ap used widths ∙ total_zero WIDTHS (λ step. (width_at [] step).segments) (λ i. refl) in
    let no_widths : length raw.widths.items ≡ 0 = ap length widths in
    let no_positions : length raw.locations.items ≡ 0 = ap length locations in
    let no_free : length raw.free.items ≡ 0 = ap length free in
    record {
      rows = subst (λ (ps : List Location). AreRows ps (lists_of raw.widths.items)) (sym locations) (subst (λ (ws : List KeptWidth). AreRows [] (lists_of ws)) (sym widths) no_rows);
      room = record {
        inside = omega (arith, no_positions, none);
        room = record {
          near = omega (arith, none);
          locations = omega (arith, none);
          listed = λ some. absurd (omega (arith, some, none));
          limits = λ step below. absurd (omega (arith, below, no_widths));
          segments = let less : segments_for raw.room ≤ raw.room = omega arith in omega (arith, less, none);
        };
        ready = λ some. absurd (omega (arith, some, no_widths));
        few = subst (λ (ws : List KeptWidth). (step : ℕ) → AreFew (width_at ws step)) (sym widths) (λ step. record { each = omega arith });
        pool = omega (arith, used_none, no_free);
      };
    }
