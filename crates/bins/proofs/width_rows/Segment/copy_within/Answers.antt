use Rattle.std.proofs.Common.{sym}
use Rattle.bins.proofs.SegmentLemmas.{kept_copied}
use Rattle.bins.proofs.width_rows.Segment.copy_within.Goals as goal

-- the bytes outside the row are unchanged
pub returns-clause-others : goal.returns-clause-others
returns-clause-others c = kept_copied c.args.from c.args.start c.args.stride c.args.self.now c.self.inside.bytes.items c.copy_within.new.self.items (sym c.self.view_is) c.copy_within.ensures.items c.requires.range c.requires.from
