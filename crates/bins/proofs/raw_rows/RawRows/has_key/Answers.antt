use Rattle.std.proofs.Common.{length, ap, ◌∙◌, arith}
use Rattle.bins.specs.KeptRows.{row_at}
use Rattle.bins.specs.Segments.{KeptWidth}
use Rattle.bins.proofs.RoomLemmas.{read_width, width_inside}
use Rattle.bins.proofs.raw_rows.RawRows.has_key.Goals as goal

pub index-rows-requires : goal.index-rows-requires
index-rows-requires c =
    let widths = c.args.self.now.widths in
    let inside = width_inside widths.items c.args.width.step c.args.at c.requires in
    omega (arith, inside, widths.ok.0)

pub key-requires : goal.key-requires
key-requires c =
    let widths = c.args.self.now.widths in
    let is = read_width widths.items c.args.width.step c.index-rows.result.now (width_inside widths.items c.args.width.step c.args.at c.requires) c.index-rows.ensures in
    omega (arith, c.requires, ap (λ (w : KeptWidth). length w.rows) is)

pub returns : goal.returns
returns c =
    let widths = c.args.self.now.widths in
    let is = read_width widths.items c.args.width.step c.index-rows.result.now (width_inside widths.items c.args.width.step c.args.at c.requires) c.index-rows.ensures in
    let key = c.key.ensures.value ∙ ap (λ (w : KeptWidth). (row_at w.rows c.args.at).key) is in
    record { exact = rw key at c.are_same.ensures }
