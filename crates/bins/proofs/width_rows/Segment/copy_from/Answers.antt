use Rattle.std.proofs.Common.{◌+◌, ◌-◌, length, sym, ap, ◌∙◌, arith}
use Rattle.bins.proofs.SegmentLemmas.{kept_through, row_through}
use Rattle.bins.proofs.width_rows.Segment.copy_from.Goals as goal

-- the bytes outside the row are unchanged
pub returns-clause-others : goal.returns-clause-others
returns-clause-others c =
    let bytes = c.self.inside.bytes in
    kept_through c.args.start (length c.args.row.now) (c.args.start + length c.args.row.now - c.args.start) bytes.len c.args.self.now bytes.items c.deref_mut.result.now c.copy_from_slice.new.self (sym c.self.view_is) c.deref_mut.ensures.value bytes.ok.0
    c.requires.range (ap length c.copy_from_slice.ensures.after) (omega arith)

pub returns-clause-row : goal.returns-clause-row
returns-clause-row c =
    let bytes = c.self.inside.bytes in
    row_through c.args.start (length c.args.row.now) (c.args.start + length c.args.row.now - c.args.start) bytes.len c.args.self.now bytes.items c.deref_mut.result.now c.copy_from_slice.new.self (sym c.self.view_is) c.deref_mut.ensures.value bytes.ok.0
    c.requires.range (ap length c.copy_from_slice.ensures.after) (omega arith) ∙ c.copy_from_slice.ensures.after
