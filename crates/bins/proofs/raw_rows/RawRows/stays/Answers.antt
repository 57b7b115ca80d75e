use Rattle.std.proofs.Common.{length, ap, arith}
use Rattle.bins.specs.KeptRows.{row_at}
use Rattle.bins.specs.Segments.{KeptWidth}
use Rattle.bins.proofs.RoomLemmas.{read_width, width_inside}
use Rattle.bins.proofs.raw_rows.RawRows.stays.Goals as goal

pub index-rows-requires : goal.index-rows-requires
index-rows-requires c =
    let widths = c.args.self.now.widths in
    let inside = width_inside widths.items c.args.width.step c.args.at c.requires.range in
    omega (arith, inside, widths.ok.0)

pub entry-requires : goal.entry-requires
entry-requires c =
    let widths = c.args.self.now.widths in
    let is = read_width widths.items c.args.width.step c.index-rows.result.now (width_inside widths.items c.args.width.step c.args.at c.requires.range) c.index-rows.ensures in
    omega (arith, c.requires.range, ap (λ (w : KeptWidth). length w.rows) is)

pub returns : goal.returns
returns c =
    let widths = c.args.self.now.widths in
    let is = read_width widths.items c.args.width.step c.index-rows.result.now (width_inside widths.items c.args.width.step c.args.at c.requires.range) c.index-rows.ensures in
    record {
      fit = λ is_so. record {
        both = omega (arith, c.suits.ensures.fit is_so, ap (λ (w : KeptWidth). w.most) is, ap length c.entry.ensures.key, ap (λ (w : KeptWidth). length (row_at w.rows c.args.at).key) is);
        value_fits = c.requires.fits;
      };
    }
