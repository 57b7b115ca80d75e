use Rattle.std.proofs.Common.{length, ap, ◌∙◌}
use Rattle.bins.specs.Segments.{KeptWidth}
use Rattle.bins.proofs.RoomLemmas.{read_width}
use Rattle.bins.proofs.raw_rows.RawRows.len_in.Goals as goal

pub returns : goal.returns
returns c =
    let widths = c.args.self.now.widths in
    record { value = c.len.ensures.value ∙ ap (λ (w : KeptWidth). length w.rows) (read_width widths.items c.args.width.step c.index-rows.result.now c.requires c.index-rows.ensures) }
