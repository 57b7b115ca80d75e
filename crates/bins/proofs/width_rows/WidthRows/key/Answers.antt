use Rattle.std.proofs.Common.{◌<◌, ◌^◌, length, sym, ap, subst, ◌∙◌, arith}
use Rattle.bins.specs.KeptRows.{HoldsRow, KeptRow, key_in, row_at}
use Rattle.bins.specs.Segments.{KeptWidth}
use Rattle.bins.proofs.SlotLemmas.{rows_long, rows_read}
use Rattle.bins.proofs.width_rows.WidthRows.key.Goals as goal

pub slot_of-row-requires-clause-holds : goal.slot_of-row-requires-clause-holds
slot_of-row-requires-clause-holds c =
    let w = c.self.inside in
    c.self.invariant.rows c.args.at (omega (arith, c.requires, ap (λ (v : KeptWidth). length v.rows) c.self.view_is, rows_long w.segments.items (2 ^ w.shift) w.stride w.many))

pub key_of-requires : goal.key_of-requires
key_of-requires c =
    let w = c.self.inside in
    let holds = c.self.invariant.rows c.args.at (omega (arith, c.requires, ap (λ (v : KeptWidth). length v.rows) c.self.view_is, rows_long w.segments.items (2 ^ w.shift) w.stride w.many)) in
    subst HoldsRow (sym c.slot_of-row.ensures.value) holds.holds

pub returns : goal.returns
returns c =
    let w = c.self.inside in
    let below : c.args.at < w.many = omega (arith, c.requires, ap (λ (v : KeptWidth). length v.rows) c.self.view_is, rows_long w.segments.items (2 ^ w.shift) w.stride w.many) in
    record {
      value = c.key_of.ensures.value ∙ ap key_in c.slot_of-row.ensures.value ∙ sym (ap (λ (r : KeptRow). r.key) (rows_read w.segments.items (2 ^ w.shift) w.stride w.many c.args.at below))
          ∙ ap (λ (v : KeptWidth). (row_at v.rows c.args.at).key) c.self.view_is;
    }
