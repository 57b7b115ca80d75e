use Rattle.std.proofs.Common.{ap, arith}
use Rattle.bins.specs.Segments.{KeptWidth}
use Rattle.bins.proofs.RoomLemmas.{read_width}
use Rattle.bins.proofs.raw_rows.RawRows.suits.Goals as goal

pub index-rows-requires : goal.index-rows-requires
index-rows-requires c = let widths = c.args.self.now.widths in omega (arith, c.requires, widths.ok.0)

pub returns : goal.returns
returns c =
    let widths = c.args.self.now.widths in
    let is = read_width widths.items c.args.width.step c.index-rows.result.now c.requires c.index-rows.ensures in
    record { fit = λ is_so. omega (arith, c.suits.ensures.fit is_so, ap (λ (w : KeptWidth). w.most) is) }
