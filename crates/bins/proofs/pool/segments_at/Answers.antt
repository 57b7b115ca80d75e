use Rattle.std.proofs.Common.{◌<◌, length, sym, ap, ◌∙◌, arith}
use Rattle.std.proofs.lemmas.List.{get_or_past}
use Rattle.bins.specs.Segments.{KeptWidth, no_width}
use Rattle.bins.proofs.RoomLemmas.{read_width}
use Rattle.bins.proofs.pool.segments_at.Goals as goal

pub returns-then-step-len : goal.returns-then-step-len
returns-then-step-len c =
    let widths = c.args.widths.now in
    let inside : c.args.step < length widths.items = omega (arith, c.if-step-len.true, c.len.ensures, widths.ok.0) in
    record { value = c.segments.ensures.value ∙ ap (λ (w : KeptWidth). w.segments) (read_width widths.items c.args.step c.index-rows.result.now inside c.index-rows.ensures) }

pub returns : goal.returns
returns c =
    let widths = c.args.widths.now in
    record { value = sym (ap (λ (w : KeptWidth). w.segments) (get_or_past widths.items c.args.step no_width (omega (arith, c.if-step-len.false, c.len.ensures, widths.ok.0)))) }
