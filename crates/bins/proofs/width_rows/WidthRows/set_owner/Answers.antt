use Rattle.std.proofs.Common.{◌≡◌, ◌<◌, ◌^◌, ◌/◌, [], List, ℕ, length, get_or, set, sym, ap, subst, ◌∙◌, arith}
use Rattle.bins.specs.KeptRows.{KeptRow, kept, row_at, row_in}
use Rattle.bins.specs.Segments.{HoldsSlot, KeepsOthers, KeptWidth, part, rows_from, slot}
use Rattle.bins.proofs.SlotLemmas.{place, rows_long, rows_read}
use Rattle.bins.proofs.WidthLemmas.{bytes_hold, bytes_inside, few_inside, row_inside, same_bytes, same_slot, written_to}
use Rattle.bins.proofs.width_rows.WidthRows.set_owner.Goals as goal

pub index_mut-segment-requires : goal.index_mut-segment-requires
index_mut-segment-requires c =
    let w = c.self.inside in
    let below : c.args.at < w.many = omega (arith, c.requires.range, ap (λ (v : KeptWidth). length v.rows) c.self.view_is, rows_long w.segments.items (2 ^ w.shift) w.stride w.many) in
    let inside = row_inside w.segments.items w.shift w.most w.stride w.many c.self.invariant c.args.at below in
    omega (arith, inside, c.place_of-index.ensures.index, w.segments.ok.0)

pub set_owner-requires-clause-range : goal.set_owner-requires-clause-range
set_owner-requires-clause-range c =
    let w = c.self.inside in
    let below : c.args.at < w.many = omega (arith, c.requires.range, ap (λ (v : KeptWidth). length v.rows) c.self.view_is, rows_long w.segments.items (2 ^ w.shift) w.stride w.many) in
    let inside = row_inside w.segments.items w.shift w.most w.stride w.many c.self.invariant c.args.at below in
    bytes_inside w.segments.items (2 ^ w.shift) w.stride c.args.at c.place_of-index.result.0 c.place_of-index.result.1 c.index_mut-segment.result.now (c.self.invariant.rows c.args.at below)
    (omega (arith, inside, c.place_of-index.ensures.index)) c.place_of-index.ensures.index c.place_of-index.ensures.start c.index_mut-segment.ensures.value

pub set_owner-requires-clause-old : goal.set_owner-requires-clause-old
set_owner-requires-clause-old c =
    let w = c.self.inside in
    let below : c.args.at < w.many = omega (arith, c.requires.range, ap (λ (v : KeptWidth). length v.rows) c.self.view_is, rows_long w.segments.items (2 ^ w.shift) w.stride w.many) in
    let inside = row_inside w.segments.items w.shift w.most w.stride w.many c.self.invariant c.args.at below in
    bytes_hold w.segments.items (2 ^ w.shift) w.stride c.args.at c.place_of-index.result.0 c.place_of-index.result.1 c.index_mut-segment.result.now (c.self.invariant.rows c.args.at below)
    (omega (arith, inside, c.place_of-index.ensures.index)) c.place_of-index.ensures.index c.place_of-index.ensures.start c.index_mut-segment.ensures.value

pub invariant_of-self : goal.invariant_of-self
invariant_of-self c =
    let w = c.self.inside in
    let segments = w.segments.items in
    let at = c.args.at in
    let index = c.place_of-index.result.0 in
    let start = c.place_of-index.result.1 in
    let old = c.index_mut-segment.result.now in
    let below : at < w.many = omega (arith, c.requires.range, ap (λ (v : KeptWidth). length v.rows) c.self.view_is, rows_long segments (2 ^ w.shift) w.stride w.many) in
    let inside = row_inside segments w.shift w.most w.stride w.many c.self.invariant at below in
    let index_inside : index < length segments = omega (arith, inside, c.place_of-index.ensures.index) in
    let slots : part old start w.stride ≡ slot segments (2 ^ w.shift) w.stride at = same_slot segments (2 ^ w.shift) w.stride at index start old (c.self.invariant.rows at below) index_inside c.place_of-index.ensures.index c.place_of-index.ensures.start c.index_mut-segment.ensures.value in
    let bytes = same_bytes segments (2 ^ w.shift) w.stride at index start old (c.self.invariant.rows at below) index_inside c.place_of-index.ensures.index c.place_of-index.ensures.start c.index_mut-segment.ensures.value in
    let new = c.set_owner.new.self in
    let holds : HoldsSlot (part new (place (2 ^ w.shift) w.stride at) w.stride) w.stride = subst (λ (n : ℕ). HoldsSlot (part new n w.stride) w.stride) c.place_of-index.ensures.start c.set_owner.ensures.holds in
    let row : row_in (part new (place (2 ^ w.shift) w.stride at) w.stride) ≡ kept (row_in (slot w.segments.items (2 ^ w.shift) w.stride c.args.at)).key (row_in (slot w.segments.items (2 ^ w.shift) w.stride c.args.at)).value c.args.owner =
    subst (λ (n : ℕ). row_in (part new n w.stride) ≡ kept (row_in (slot w.segments.items (2 ^ w.shift) w.stride c.args.at)).key (row_in (slot w.segments.items (2 ^ w.shift) w.stride c.args.at)).value c.args.owner) c.place_of-index.ensures.start (c.set_owner.ensures.row ∙ ap (λ (b : List ℕ). kept (row_in b).key (row_in b).value c.args.owner) slots) in
    let others : KeepsOthers (place (2 ^ w.shift) w.stride at) w.stride (get_or segments (at / 2 ^ w.shift) []) new = subst (λ (n : ℕ). KeepsOthers n w.stride (get_or segments (at / 2 ^ w.shift) []) new) c.place_of-index.ensures.start (subst (λ (b : List ℕ). KeepsOthers start w.stride b new) bytes c.set_owner.ensures.others) in
    let written = written_to segments w.shift w.most w.stride w.many c.self.invariant at new _ below holds row others index c.place_of-index.ensures.index in
    written.all

pub returns-clause-rows : goal.returns-clause-rows
returns-clause-rows c =
    let w = c.self.inside in
    let segments = w.segments.items in
    let at = c.args.at in
    let index = c.place_of-index.result.0 in
    let start = c.place_of-index.result.1 in
    let old = c.index_mut-segment.result.now in
    let below : at < w.many = omega (arith, c.requires.range, ap (λ (v : KeptWidth). length v.rows) c.self.view_is, rows_long segments (2 ^ w.shift) w.stride w.many) in
    let inside = row_inside segments w.shift w.most w.stride w.many c.self.invariant at below in
    let index_inside : index < length segments = omega (arith, inside, c.place_of-index.ensures.index) in
    let slots : part old start w.stride ≡ slot segments (2 ^ w.shift) w.stride at = same_slot segments (2 ^ w.shift) w.stride at index start old (c.self.invariant.rows at below) index_inside c.place_of-index.ensures.index c.place_of-index.ensures.start c.index_mut-segment.ensures.value in
    let bytes = same_bytes segments (2 ^ w.shift) w.stride at index start old (c.self.invariant.rows at below) index_inside c.place_of-index.ensures.index c.place_of-index.ensures.start c.index_mut-segment.ensures.value in
    let new = c.set_owner.new.self in
    let holds : HoldsSlot (part new (place (2 ^ w.shift) w.stride at) w.stride) w.stride = subst (λ (n : ℕ). HoldsSlot (part new n w.stride) w.stride) c.place_of-index.ensures.start c.set_owner.ensures.holds in
    let row : row_in (part new (place (2 ^ w.shift) w.stride at) w.stride) ≡ kept (row_in (slot w.segments.items (2 ^ w.shift) w.stride c.args.at)).key (row_in (slot w.segments.items (2 ^ w.shift) w.stride c.args.at)).value c.args.owner =
    subst (λ (n : ℕ). row_in (part new n w.stride) ≡ kept (row_in (slot w.segments.items (2 ^ w.shift) w.stride c.args.at)).key (row_in (slot w.segments.items (2 ^ w.shift) w.stride c.args.at)).value c.args.owner) c.place_of-index.ensures.start (c.set_owner.ensures.row ∙ ap (λ (b : List ℕ). kept (row_in b).key (row_in b).value c.args.owner) slots) in
    let others : KeepsOthers (place (2 ^ w.shift) w.stride at) w.stride (get_or segments (at / 2 ^ w.shift) []) new = subst (λ (n : ℕ). KeepsOthers n w.stride (get_or segments (at / 2 ^ w.shift) []) new) c.place_of-index.ensures.start (subst (λ (b : List ℕ). KeepsOthers start w.stride b new) bytes c.set_owner.ensures.others) in
    let written = written_to segments w.shift w.most w.stride w.many c.self.invariant at new _ below holds row others index c.place_of-index.ensures.index in
    written.rows ∙ ap (λ (r : KeptRow). set (rows_from segments (2 ^ w.shift) w.stride w.many) at r) (ap (λ (r : KeptRow). kept r.key r.value c.args.owner) (sym (rows_read segments (2 ^ w.shift) w.stride w.many at below)))
    ∙ ap (λ (v : KeptWidth). set v.rows at ((λ (r : KeptRow). kept r.key r.value c.args.owner) (row_at v.rows at))) c.self.view_is

pub returns-clause-few : goal.returns-clause-few
returns-clause-few c =
    let w = c.self.inside in
    let segments = w.segments.items in
    let at = c.args.at in
    let index = c.place_of-index.result.0 in
    let start = c.place_of-index.result.1 in
    let old = c.index_mut-segment.result.now in
    let below : at < w.many = omega (arith, c.requires.range, ap (λ (v : KeptWidth). length v.rows) c.self.view_is, rows_long segments (2 ^ w.shift) w.stride w.many) in
    let inside = row_inside segments w.shift w.most w.stride w.many c.self.invariant at below in
    let index_inside : index < length segments = omega (arith, inside, c.place_of-index.ensures.index) in
    let slots : part old start w.stride ≡ slot segments (2 ^ w.shift) w.stride at = same_slot segments (2 ^ w.shift) w.stride at index start old (c.self.invariant.rows at below) index_inside c.place_of-index.ensures.index c.place_of-index.ensures.start c.index_mut-segment.ensures.value in
    let bytes = same_bytes segments (2 ^ w.shift) w.stride at index start old (c.self.invariant.rows at below) index_inside c.place_of-index.ensures.index c.place_of-index.ensures.start c.index_mut-segment.ensures.value in
    let new = c.set_owner.new.self in
    let holds : HoldsSlot (part new (place (2 ^ w.shift) w.stride at) w.stride) w.stride = subst (λ (n : ℕ). HoldsSlot (part new n w.stride) w.stride) c.place_of-index.ensures.start c.set_owner.ensures.holds in
    let row : row_in (part new (place (2 ^ w.shift) w.stride at) w.stride) ≡ kept (row_in (slot w.segments.items (2 ^ w.shift) w.stride c.args.at)).key (row_in (slot w.segments.items (2 ^ w.shift) w.stride c.args.at)).value c.args.owner =
    subst (λ (n : ℕ). row_in (part new n w.stride) ≡ kept (row_in (slot w.segments.items (2 ^ w.shift) w.stride c.args.at)).key (row_in (slot w.segments.items (2 ^ w.shift) w.stride c.args.at)).value c.args.owner) c.place_of-index.ensures.start (c.set_owner.ensures.row ∙ ap (λ (b : List ℕ). kept (row_in b).key (row_in b).value c.args.owner) slots) in
    let others : KeepsOthers (place (2 ^ w.shift) w.stride at) w.stride (get_or segments (at / 2 ^ w.shift) []) new = subst (λ (n : ℕ). KeepsOthers n w.stride (get_or segments (at / 2 ^ w.shift) []) new) c.place_of-index.ensures.start (subst (λ (b : List ℕ). KeepsOthers start w.stride b new) bytes c.set_owner.ensures.others) in
    let written = written_to segments w.shift w.most w.stride w.many c.self.invariant at new _ below holds row others index c.place_of-index.ensures.index in
    record { each = omega (arith, few_inside _ w.shift w.most w.stride w.many written.all, rows_long (set segments index new) (2 ^ w.shift) w.stride w.many) }
