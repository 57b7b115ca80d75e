use Rattle.std.proofs.Common.{◌+◌, ◌-◌, length, drop, length-drop, sym, ap, arith}
use Rattle.std.proofs.lemmas.List.{length-take}
use Rattle.bins.proofs.SegmentLemmas.{kept_through}
use Rattle.bins.proofs.width_rows.Segment.set_owner.Goals as goal

-- the bytes outside the row are unchanged
pub returns-clause-others : goal.returns-clause-others
returns-clause-others c =
    let bytes = c.self.inside.bytes in
    kept_through c.args.start c.args.stride (c.args.start + c.args.stride - c.args.start) bytes.len c.args.self.now bytes.items c.deref_mut.result.now c.set_owner.new.row (sym c.self.view_is) c.deref_mut.ensures.value bytes.ok.0
    c.requires.range (omega (arith, c.set_owner.ensures.same, length-take (c.args.start + c.args.stride - c.args.start) (drop c.args.start c.deref_mut.result.now), length-drop c.args.start c.deref_mut.result.now, ap length c.deref_mut.ensures.value, ap length c.self.view_is, c.requires.range)) (omega arith)
