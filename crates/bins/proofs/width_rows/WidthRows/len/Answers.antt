use Rattle.std.proofs.Common.{length, sym, ap, ◌∙◌, ◌^◌}
use Rattle.bins.specs.Segments.{KeptWidth}
use Rattle.bins.proofs.SlotLemmas.{rows_long}
use Rattle.bins.proofs.width_rows.WidthRows.len.Goals as goal

pub returns : goal.returns
returns c =
    let w = c.self.inside in
    record { value = sym (rows_long w.segments.items (2 ^ w.shift) w.stride w.many) ∙ ap (λ (v : KeptWidth). length v.rows) c.self.view_is }
