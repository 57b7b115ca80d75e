use Rattle.std.proofs.Common.{◌-◌, ◌<◌, ◌^◌, List, ℕ, length, sym, ap, subst, ◌∙◌, arith}
use Rattle.std.specs.List.{swap_remove}
use Rattle.bins.specs.KeptRows.{HoldsRow, KeptRow, nobody, row_at, row_in}
use Rattle.bins.specs.Segments.{KeptWidth, rows_from}
use Rattle.bins.proofs.SlotLemmas.{rows_less, rows_long, rows_read}
use Rattle.bins.proofs.WidthLemmas.{closed_all, few_inside, last_segment}
use Rattle.bins.proofs.width_rows.WidthRows.swap_remove.Goals as goal

pub slot_of-requires-clause-holds : goal.slot_of-requires-clause-holds
slot_of-requires-clause-holds c =
    let w = c.self.inside in
    let segments = w.segments.items in
    let seen = ap (λ (v : KeptWidth). length v.rows) c.self.view_is in
    let long = rows_long segments (2 ^ w.shift) w.stride w.many in
    let below : c.args.at < w.many = omega (arith, c.requires.range, seen, long) in
    let last : w.many - 1 < w.many = omega (arith, below) in
    c.self.invariant.rows (w.many - 1) last

pub owner_of-owner-requires : goal.owner_of-owner-requires
owner_of-owner-requires c =
    let w = c.self.inside in
    let segments = w.segments.items in
    let seen = ap (λ (v : KeptWidth). length v.rows) c.self.view_is in
    let long = rows_long segments (2 ^ w.shift) w.stride w.many in
    let below : c.args.at < w.many = omega (arith, c.requires.range, seen, long) in
    let last : w.many - 1 < w.many = omega (arith, below) in
    subst HoldsRow (sym c.slot_of.ensures.value) (c.self.invariant.rows (w.many - 1) last).holds

pub copy_row-requires-clause-before : goal.copy_row-requires-clause-before
copy_row-requires-clause-before c =
    let w = c.self.inside in
    let segments = w.segments.items in
    let seen = ap (λ (v : KeptWidth). length v.rows) c.self.view_is in
    let long = rows_long segments (2 ^ w.shift) w.stride w.many in
    let below : c.args.at < w.many = omega (arith, c.requires.range, seen, long) in
    let last : w.many - 1 < w.many = omega (arith, below) in
    omega (arith, below)

pub copy_row-requires-clause-end : goal.copy_row-requires-clause-end
copy_row-requires-clause-end c =
    let w = c.self.inside in
    let segments = w.segments.items in
    let seen = ap (λ (v : KeptWidth). length v.rows) c.self.view_is in
    let long = rows_long segments (2 ^ w.shift) w.stride w.many in
    let below : c.args.at < w.many = omega (arith, c.requires.range, seen, long) in
    let last : w.many - 1 < w.many = omega (arith, below) in
    let some : 0 < 2 ^ w.shift = omega (arith, c.self.invariant.enough, c.self.invariant.needed) in
    sym (last_segment segments (2 ^ w.shift) some (w.many - 1) (omega (arith, below, c.self.invariant.enough)) (omega (arith, below, c.self.invariant.needed)))

pub copy_row-requires-clause-holds : goal.copy_row-requires-clause-holds
copy_row-requires-clause-holds c =
    let w = c.self.inside in
    let segments = w.segments.items in
    let seen = ap (λ (v : KeptWidth). length v.rows) c.self.view_is in
    let long = rows_long segments (2 ^ w.shift) w.stride w.many in
    let below : c.args.at < w.many = omega (arith, c.requires.range, seen, long) in
    let last : w.many - 1 < w.many = omega (arith, below) in
    λ i less. c.self.invariant.rows i (omega (arith, less, below))

pub invariant_of-self : goal.invariant_of-self
invariant_of-self c =
    let w = c.self.inside in
    let segments = w.segments.items in
    let seen = ap (λ (v : KeptWidth). length v.rows) c.self.view_is in
    let long = rows_long segments (2 ^ w.shift) w.stride w.many in
    let below : c.args.at < w.many = omega (arith, c.requires.range, seen, long) in
    let last : w.many - 1 < w.many = omega (arith, below) in
    closed_all segments c.copy_row.new.segments.items c.close_slot.new.segments.items w.shift w.most w.stride w.many (w.many - 1) c.args.at c.self.invariant last c.copy_row.ensures.row c.copy_row.ensures.others c.close_slot.ensures.closed

pub returns-clause-owner : goal.returns-clause-owner
returns-clause-owner c =
    let w = c.self.inside in
    let segments = w.segments.items in
    let seen = ap (λ (v : KeptWidth). length v.rows) c.self.view_is in
    let long = rows_long segments (2 ^ w.shift) w.stride w.many in
    let below : c.args.at < w.many = omega (arith, c.requires.range, seen, long) in
    let last : w.many - 1 < w.many = omega (arith, below) in
    c.owner_of-owner.ensures.value ∙ ap (λ (b : List ℕ). (row_in b).owner) c.slot_of.ensures.value
    ∙ sym (ap (λ (r : KeptRow). r.owner) (rows_read segments (2 ^ w.shift) w.stride w.many (w.many - 1) last))
    ∙ ap (λ (n : ℕ). (row_at (rows_from segments (2 ^ w.shift) w.stride w.many) (n - 1)).owner) (sym long)
    ∙ ap (λ (v : KeptWidth). (row_at v.rows (length v.rows - 1)).owner) c.self.view_is

pub returns-clause-rows : goal.returns-clause-rows
returns-clause-rows c =
    let w = c.self.inside in
    let segments = w.segments.items in
    let seen = ap (λ (v : KeptWidth). length v.rows) c.self.view_is in
    let long = rows_long segments (2 ^ w.shift) w.stride w.many in
    let below : c.args.at < w.many = omega (arith, c.requires.range, seen, long) in
    let last : w.many - 1 < w.many = omega (arith, below) in
    let closed = c.close_slot.ensures.closed in
    rows_less segments c.close_slot.new.segments.items (2 ^ w.shift) w.stride w.many (w.many - 1) c.args.at (omega (arith, below)) (omega (arith, below))
    (λ less. closed.slots w.stride c.args.at less ∙ c.copy_row.ensures.row)
    (λ i less other. closed.slots w.stride i less ∙ c.copy_row.ensures.others i less other)
    ∙ ap (λ (v : KeptWidth). swap_remove v.rows c.args.at nobody) c.self.view_is

pub returns-clause-few : goal.returns-clause-few
returns-clause-few c =
    let w = c.self.inside in
    let segments = w.segments.items in
    let seen = ap (λ (v : KeptWidth). length v.rows) c.self.view_is in
    let long = rows_long segments (2 ^ w.shift) w.stride w.many in
    let below : c.args.at < w.many = omega (arith, c.requires.range, seen, long) in
    let last : w.many - 1 < w.many = omega (arith, below) in
    let all = closed_all segments c.copy_row.new.segments.items c.close_slot.new.segments.items w.shift w.most w.stride w.many (w.many - 1) c.args.at c.self.invariant last c.copy_row.ensures.row c.copy_row.ensures.others c.close_slot.ensures.closed in
    record { each = omega (arith, few_inside _ w.shift w.most w.stride (w.many - 1) all, rows_long c.close_slot.new.segments.items (2 ^ w.shift) w.stride (w.many - 1)) }
