use Rattle.std.proofs.Common.{◌+◌, ◌-◌, length, drop, length-drop, sym, ap, arith}
use Rattle.std.proofs.lemmas.List.{length-take}
use Rattle.bins.proofs.SegmentLemmas.{both_kept, kept_through}
use Rattle.bins.proofs.width_rows.Segment.write.Goals as goal

-- the bytes outside the row are unchanged
pub returns-clause-others : goal.returns-clause-others
returns-clause-others c =
    let bytes = c.self.inside.bytes in
    both_kept c.args.start c.args.stride c.args.self.now c.reach-touched.new.self _ c.reach-touched.ensures.all
    (kept_through c.args.start c.args.stride (c.args.start + c.args.stride - c.args.start) bytes.len c.reach-touched.new.self bytes.items c.deref_mut.result.now c.write.new.row (sym c.self.view_is) c.deref_mut.ensures.value bytes.ok.0
    c.reach-touched.ensures.enough (omega (arith, c.write.ensures.same, length-take (c.args.start + c.args.stride - c.args.start) (drop c.args.start c.deref_mut.result.now), length-drop c.args.start c.deref_mut.result.now, ap length c.deref_mut.ensures.value, ap length c.self.view_is, c.reach-touched.ensures.enough)) (omega arith))
