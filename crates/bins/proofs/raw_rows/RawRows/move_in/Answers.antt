use Rattle.std.proofs.Common.{◌<◌, length, set, refl, ap, ◌∙◌, arith}
use Rattle.bins.specs.KeptRows.{kept, row_at}
use Rattle.bins.specs.Segments.{KeptWidth}
use Rattle.bins.proofs.RoomLemmas.{lists_set, read_width, roomy_set, width_inside}
use Rattle.bins.proofs.raw_rows.RawRows.move_in.Goals as goal

pub index_mut-rows-requires : goal.index_mut-rows-requires
index_mut-rows-requires c =
    let raw = c.args.self.now in
    let step = c.args.width.step in
    let inside : step < length raw.widths.items = width_inside raw.widths.items step c.args.at c.requires.range in
    omega (arith, inside, raw.widths.ok.0)

pub set_owner-requires : goal.set_owner-requires
set_owner-requires c =
    let raw = c.args.self.now in
    let step = c.args.width.step in
    let inside : step < length raw.widths.items = width_inside raw.widths.items step c.args.at c.requires.range in
    let is = read_width raw.widths.items step c.index_mut-rows.result.now inside c.index_mut-rows.ensures.value in
    omega (arith, c.requires.range, ap (λ (w : KeptWidth). length w.rows) is)

pub returns-clause-rows : goal.returns-clause-rows
returns-clause-rows c =
    let raw = c.args.self.now in
    let step = c.args.width.step in
    let inside : step < length raw.widths.items = width_inside raw.widths.items step c.args.at c.requires.range in
    let is = read_width raw.widths.items step c.index_mut-rows.result.now inside c.index_mut-rows.ensures.value in
    lists_set raw.widths.items c.args.width c.set_owner.new.self _ inside (c.set_owner.ensures.rows ∙ ap (λ (w : KeptWidth). set w.rows c.args.at (kept (row_at w.rows c.args.at).key (row_at w.rows c.args.at).value c.args.owner)) is)

pub returns-clause-room : goal.returns-clause-room
returns-clause-room c =
    let raw = c.args.self.now in
    let step = c.args.width.step in
    let inside : step < length raw.widths.items = width_inside raw.widths.items step c.args.at c.requires.range in
    let is = read_width raw.widths.items step c.index_mut-rows.result.now inside c.index_mut-rows.ensures.value in
    let rest = c.set_owner.ensures.rest in
    roomy_set raw _ c.requires.room step c.set_owner.new.self inside refl refl refl refl (rest.most ∙ ap (λ (w : KeptWidth). w.most) is) (rest.limit ∙ ap (λ (w : KeptWidth). w.limit) is) c.set_owner.ensures.few
    (omega (arith, rest.segments, ap (λ (w : KeptWidth). w.segments) is)) refl
