use Rattle.std.proofs.Common.{◌<◌, length, set, refl, ap, ◌∙◌, arith}
use Rattle.bins.specs.KeptRows.{kept, row_at}
use Rattle.bins.specs.Segments.{KeptWidth}
use Rattle.bins.proofs.RoomLemmas.{lists_set, read_width, roomy_set, width_inside}
use Rattle.bins.proofs.raw_rows.RawRows.set_value_in.Goals as goal

pub index_mut-rows-requires : goal.index_mut-rows-requires
index_mut-rows-requires c =
    let raw = c.args.self.now in
    let step = c.args.width.step in
    let inside : step < length raw.widths.items = width_inside raw.widths.items step c.args.at c.requires.range in
    omega (arith, inside, raw.widths.ok.0)

pub set_value-requires-clause-range : goal.set_value-requires-clause-range
set_value-requires-clause-range c =
    let raw = c.args.self.now in
    let step = c.args.width.step in
    let inside : step < length raw.widths.items = width_inside raw.widths.items step c.args.at c.requires.range in
    let is = read_width raw.widths.items step c.index_mut-rows.result.now inside c.index_mut-rows.ensures.value in
    omega (arith, c.requires.range, ap (λ (w : KeptWidth). length w.rows) is)

pub set_value-requires-clause-fit : goal.set_value-requires-clause-fit
set_value-requires-clause-fit c =
    let raw = c.args.self.now in
    let step = c.args.width.step in
    let inside : step < length raw.widths.items = width_inside raw.widths.items step c.args.at c.requires.range in
    let is = read_width raw.widths.items step c.index_mut-rows.result.now inside c.index_mut-rows.ensures.value in
    omega (arith, c.requires.fit.both, ap (λ (w : KeptWidth). length (row_at w.rows c.args.at).key) is, ap (λ (w : KeptWidth). w.most) is)

pub returns-clause-rows : goal.returns-clause-rows
returns-clause-rows c =
    let raw = c.args.self.now in
    let step = c.args.width.step in
    let inside : step < length raw.widths.items = width_inside raw.widths.items step c.args.at c.requires.range in
    let is = read_width raw.widths.items step c.index_mut-rows.result.now inside c.index_mut-rows.ensures.value in
    lists_set raw.widths.items c.args.width c.set_value.new.self _ inside (c.set_value.ensures.rows ∙ ap (λ (w : KeptWidth). set w.rows c.args.at (kept (row_at w.rows c.args.at).key c.args.value.now (row_at w.rows c.args.at).owner)) is)

pub returns-clause-room : goal.returns-clause-room
returns-clause-room c =
    let raw = c.args.self.now in
    let step = c.args.width.step in
    let inside : step < length raw.widths.items = width_inside raw.widths.items step c.args.at c.requires.range in
    let is = read_width raw.widths.items step c.index_mut-rows.result.now inside c.index_mut-rows.ensures.value in
    let rest = c.set_value.ensures.rest in
    roomy_set raw _ c.requires.room step c.set_value.new.self inside refl refl refl refl (rest.most ∙ ap (λ (w : KeptWidth). w.most) is) (rest.limit ∙ ap (λ (w : KeptWidth). w.limit) is) c.set_value.ensures.few
    (omega (arith, rest.segments, ap (λ (w : KeptWidth). w.segments) is)) refl
