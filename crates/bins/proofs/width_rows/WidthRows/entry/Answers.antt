use Rattle.std.proofs.Common.{◌<◌, ◌^◌, length, sym, ap, subst, ◌∙◌, arith}
use Rattle.bins.specs.KeptRows.{HoldsRow, KeptRow, key_in, value_in, row_at}
use Rattle.bins.specs.Segments.{KeptWidth}
use Rattle.bins.proofs.SlotLemmas.{rows_long, rows_read}
use Rattle.bins.proofs.width_rows.WidthRows.entry.Goals as goal

pub slot_of-row-requires-clause-holds : goal.slot_of-row-requires-clause-holds
slot_of-row-requires-clause-holds c =
    let w = c.self.inside in
    c.self.invariant.rows c.args.at (omega (arith, c.requires, ap (λ (v : KeptWidth). length v.rows) c.self.view_is, rows_long w.segments.items (2 ^ w.shift) w.stride w.many))

pub key_of-requires : goal.key_of-requires
key_of-requires c =
    let w = c.self.inside in
    let holds = c.self.invariant.rows c.args.at (omega (arith, c.requires, ap (λ (v : KeptWidth). length v.rows) c.self.view_is, rows_long w.segments.items (2 ^ w.shift) w.stride w.many)) in
    subst HoldsRow (sym c.slot_of-row.ensures.value) holds.holds

pub value_of-requires : goal.value_of-requires
value_of-requires c =
    let w = c.self.inside in
    let holds = c.self.invariant.rows c.args.at (omega (arith, c.requires, ap (λ (v : KeptWidth). length v.rows) c.self.view_is, rows_long w.segments.items (2 ^ w.shift) w.stride w.many)) in
    subst HoldsRow (sym c.slot_of-row.ensures.value) holds.holds

pub returns-clause-key : goal.returns-clause-key
returns-clause-key c =
    let w = c.self.inside in
    let below : c.args.at < w.many = omega (arith, c.requires, ap (λ (v : KeptWidth). length v.rows) c.self.view_is, rows_long w.segments.items (2 ^ w.shift) w.stride w.many) in
    c.key_of.ensures.value ∙ ap key_in c.slot_of-row.ensures.value ∙ sym (ap (λ (r : KeptRow). r.key) (rows_read w.segments.items (2 ^ w.shift) w.stride w.many c.args.at below))
    ∙ ap (λ (v : KeptWidth). (row_at v.rows c.args.at).key) c.self.view_is

pub returns-clause-value : goal.returns-clause-value
returns-clause-value c =
    let w = c.self.inside in
    let below : c.args.at < w.many = omega (arith, c.requires, ap (λ (v : KeptWidth). length v.rows) c.self.view_is, rows_long w.segments.items (2 ^ w.shift) w.stride w.many) in
    c.value_of.ensures.value ∙ ap value_in c.slot_of-row.ensures.value ∙ sym (ap (λ (r : KeptRow). r.value) (rows_read w.segments.items (2 ^ w.shift) w.stride w.many c.args.at below))
    ∙ ap (λ (v : KeptWidth). (row_at v.rows c.args.at).value) c.self.view_is
