use Rattle.std.proofs.Common.{◌<◌, ◌^◌, length, sym, ap, subst, ◌∙◌, arith}
use Rattle.bins.specs.KeptRows.{HoldsRow, KeptRow, row_at, row_in}
use Rattle.bins.specs.Segments.{KeptWidth}
use Rattle.bins.proofs.SlotLemmas.{rows_long, rows_read}
use Rattle.bins.proofs.width_rows.WidthRows.owner.Goals as goal

pub slot_of-row-requires-clause-holds : goal.slot_of-row-requires-clause-holds
slot_of-row-requires-clause-holds c =
    let w = c.self.inside in
    c.self.invariant.rows c.args.at (omega (arith, c.requires, ap (λ (v : KeptWidth). length v.rows) c.self.view_is, rows_long w.segments.items (2 ^ w.shift) w.stride w.many))

pub owner_of-requires : goal.owner_of-requires
owner_of-requires c =
    let w = c.self.inside in
    let holds = c.self.invariant.rows c.args.at (omega (arith, c.requires, ap (λ (v : KeptWidth). length v.rows) c.self.view_is, rows_long w.segments.items (2 ^ w.shift) w.stride w.many)) in
    subst HoldsRow (sym c.slot_of-row.ensures.value) holds.holds

pub returns : goal.returns
returns c =
    let w = c.self.inside in
    let below : c.args.at < w.many = omega (arith, c.requires, ap (λ (v : KeptWidth). length v.rows) c.self.view_is, rows_long w.segments.items (2 ^ w.shift) w.stride w.many) in
    record {
      value = c.owner_of.ensures.value ∙ ap (λ bytes. (row_in bytes).owner) c.slot_of-row.ensures.value ∙ sym (ap (λ (r : KeptRow). r.owner) (rows_read w.segments.items (2 ^ w.shift) w.stride w.many c.args.at below))
          ∙ ap (λ (v : KeptWidth). (row_at v.rows c.args.at).owner) c.self.view_is;
    }
