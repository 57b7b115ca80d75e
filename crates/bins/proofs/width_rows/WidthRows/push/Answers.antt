use Rattle.std.proofs.Common.{◌≡◌, ◌+◌, ◌<◌, ◌^◌, ◌/◌, ◌++◌, ◌∷◌, [], List, ℕ, length, get_or, set, ap, subst, ◌∙◌, arith}
use Rattle.std.proofs.lemmas.List.{get_or_read}
use Rattle.bins.specs.KeptRows.{kept, row_in}
use Rattle.bins.specs.Segments.{HoldsSlot, KeepsOthers, KeptWidth, part}
use Rattle.bins.proofs.SlotLemmas.{place, rows_long}
use Rattle.bins.proofs.WidthLemmas.{added_to, few_inside, next_inside}
use Rattle.bins.proofs.width_rows.WidthRows.push.Goals as goal

pub open_slot-requires-clause-limit : goal.open_slot-requires-clause-limit
open_slot-requires-clause-limit c =
    let w = c.self.inside in
    omega (arith, c.requires.limit, ap (λ (v : KeptWidth). length v.rows) c.self.view_is, ap (λ (v : KeptWidth). v.limit) c.self.view_is, rows_long w.segments.items (2 ^ w.shift) w.stride w.many)

pub overflow_add-self : goal.overflow_add-self
overflow_add-self c =
    let w = c.self.inside in
    omega (arith, c.requires.near, ap (λ (v : KeptWidth). length v.rows) c.self.view_is, rows_long w.segments.items (2 ^ w.shift) w.stride w.many)

pub invariant_of-self : goal.invariant_of-self
invariant_of-self c =
    let w = c.self.inside in
    let old = w.segments.items in
    let segments = c.open_slot.new.segments.items in
    let index = c.place_of-index.result.0 in
    let start = c.place_of-index.result.1 in
    let was = c.index_mut-segment.result.now in
    let new = c.write-touched.new.self in
    let r = kept c.args.key.now c.args.value.now c.args.owner in
    let inside = next_inside old segments w.shift w.most w.stride w.many c.self.invariant c.open_slot.ensures.opened in
    let index_inside : index < length segments = omega (arith, inside, c.place_of-index.ensures.index) in
    let bytes : was ≡ get_or segments (w.many / 2 ^ w.shift) [] = get_or_read segments index was index_inside c.index_mut-segment.ensures.value [] ∙ ap (λ (n : ℕ). get_or segments n []) c.place_of-index.ensures.index in
    let holds : HoldsSlot (part new (place (2 ^ w.shift) w.stride w.many) w.stride) w.stride = subst (λ (n : ℕ). HoldsSlot (part new n w.stride) w.stride) c.place_of-index.ensures.start c.write-touched.ensures.holds in
    let row : row_in (part new (place (2 ^ w.shift) w.stride w.many) w.stride) ≡ r = subst (λ (n : ℕ). row_in (part new n w.stride) ≡ r) c.place_of-index.ensures.start c.write-touched.ensures.row in
    let others : KeepsOthers (place (2 ^ w.shift) w.stride w.many) w.stride (get_or segments (w.many / 2 ^ w.shift) []) new =
    subst (λ (n : ℕ). KeepsOthers n w.stride (get_or segments (w.many / 2 ^ w.shift) []) new) c.place_of-index.ensures.start (subst (λ (b : List ℕ). KeepsOthers start w.stride b new) bytes c.write-touched.ensures.others) in
    let added = added_to old segments w.shift w.most w.stride w.many c.self.invariant c.open_slot.ensures.opened new r holds row others index c.place_of-index.ensures.index in
    added.all

pub returns-clause-rows : goal.returns-clause-rows
returns-clause-rows c =
    let w = c.self.inside in
    let old = w.segments.items in
    let segments = c.open_slot.new.segments.items in
    let index = c.place_of-index.result.0 in
    let start = c.place_of-index.result.1 in
    let was = c.index_mut-segment.result.now in
    let new = c.write-touched.new.self in
    let r = kept c.args.key.now c.args.value.now c.args.owner in
    let inside = next_inside old segments w.shift w.most w.stride w.many c.self.invariant c.open_slot.ensures.opened in
    let index_inside : index < length segments = omega (arith, inside, c.place_of-index.ensures.index) in
    let bytes : was ≡ get_or segments (w.many / 2 ^ w.shift) [] = get_or_read segments index was index_inside c.index_mut-segment.ensures.value [] ∙ ap (λ (n : ℕ). get_or segments n []) c.place_of-index.ensures.index in
    let holds : HoldsSlot (part new (place (2 ^ w.shift) w.stride w.many) w.stride) w.stride = subst (λ (n : ℕ). HoldsSlot (part new n w.stride) w.stride) c.place_of-index.ensures.start c.write-touched.ensures.holds in
    let row : row_in (part new (place (2 ^ w.shift) w.stride w.many) w.stride) ≡ r = subst (λ (n : ℕ). row_in (part new n w.stride) ≡ r) c.place_of-index.ensures.start c.write-touched.ensures.row in
    let others : KeepsOthers (place (2 ^ w.shift) w.stride w.many) w.stride (get_or segments (w.many / 2 ^ w.shift) []) new =
    subst (λ (n : ℕ). KeepsOthers n w.stride (get_or segments (w.many / 2 ^ w.shift) []) new) c.place_of-index.ensures.start (subst (λ (b : List ℕ). KeepsOthers start w.stride b new) bytes c.write-touched.ensures.others) in
    let added = added_to old segments w.shift w.most w.stride w.many c.self.invariant c.open_slot.ensures.opened new r holds row others index c.place_of-index.ensures.index in
    added.rows ∙ ap (λ (v : KeptWidth). v.rows ++ r ∷ []) c.self.view_is

pub returns-clause-few : goal.returns-clause-few
returns-clause-few c =
    let w = c.self.inside in
    let old = w.segments.items in
    let segments = c.open_slot.new.segments.items in
    let index = c.place_of-index.result.0 in
    let start = c.place_of-index.result.1 in
    let was = c.index_mut-segment.result.now in
    let new = c.write-touched.new.self in
    let r = kept c.args.key.now c.args.value.now c.args.owner in
    let inside = next_inside old segments w.shift w.most w.stride w.many c.self.invariant c.open_slot.ensures.opened in
    let index_inside : index < length segments = omega (arith, inside, c.place_of-index.ensures.index) in
    let bytes : was ≡ get_or segments (w.many / 2 ^ w.shift) [] = get_or_read segments index was index_inside c.index_mut-segment.ensures.value [] ∙ ap (λ (n : ℕ). get_or segments n []) c.place_of-index.ensures.index in
    let holds : HoldsSlot (part new (place (2 ^ w.shift) w.stride w.many) w.stride) w.stride = subst (λ (n : ℕ). HoldsSlot (part new n w.stride) w.stride) c.place_of-index.ensures.start c.write-touched.ensures.holds in
    let row : row_in (part new (place (2 ^ w.shift) w.stride w.many) w.stride) ≡ r = subst (λ (n : ℕ). row_in (part new n w.stride) ≡ r) c.place_of-index.ensures.start c.write-touched.ensures.row in
    let others : KeepsOthers (place (2 ^ w.shift) w.stride w.many) w.stride (get_or segments (w.many / 2 ^ w.shift) []) new =
    subst (λ (n : ℕ). KeepsOthers n w.stride (get_or segments (w.many / 2 ^ w.shift) []) new) c.place_of-index.ensures.start (subst (λ (b : List ℕ). KeepsOthers start w.stride b new) bytes c.write-touched.ensures.others) in
    let added = added_to old segments w.shift w.most w.stride w.many c.self.invariant c.open_slot.ensures.opened new r holds row others index c.place_of-index.ensures.index in
    record { each = omega (arith, few_inside _ w.shift w.most w.stride (w.many + 1) added.all, rows_long (set segments index new) (2 ^ w.shift) w.stride (w.many + 1)) }
