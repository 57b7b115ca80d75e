use Rattle.std.proofs.Common.{◌-◌, ◌<◌, length, refl, ap, ◌∙◌, arith}
use Rattle.std.specs.List.{swap_remove}
use Rattle.bins.specs.KeptRows.{nobody, row_at}
use Rattle.bins.specs.Segments.{KeptWidth}
use Rattle.bins.proofs.RoomLemmas.{lists_set, read_width, roomy_set, used_part, width_inside}
use Rattle.bins.proofs.raw_rows.RawRows.remove_in.Goals as goal

pub index_mut-rows-requires : goal.index_mut-rows-requires
index_mut-rows-requires c =
    let raw = c.args.self.now in
    let step = c.args.width.step in
    let inside : step < length raw.widths.items = width_inside raw.widths.items step c.args.at c.requires.range in
    omega (arith, inside, raw.widths.ok.0)

pub swap_remove-requires-clause-range : goal.swap_remove-requires-clause-range
swap_remove-requires-clause-range c =
    let raw = c.args.self.now in
    let step = c.args.width.step in
    let inside : step < length raw.widths.items = width_inside raw.widths.items step c.args.at c.requires.range in
    let is = read_width raw.widths.items step c.index_mut-rows.result.now inside c.index_mut-rows.ensures.value in
    omega (arith, c.requires.range, ap (λ (w : KeptWidth). length w.rows) is)

pub swap_remove-requires-clause-list : goal.swap_remove-requires-clause-list
swap_remove-requires-clause-list c =
    let raw = c.args.self.now in
    let step = c.args.width.step in
    let inside : step < length raw.widths.items = width_inside raw.widths.items step c.args.at c.requires.range in
    let is = read_width raw.widths.items step c.index_mut-rows.result.now inside c.index_mut-rows.ensures.value in
    let part = used_part raw.widths.items step inside (c.requires.room.ready (omega (arith, inside))).all in omega (arith, part, c.requires.room.pool, ap (λ (w : KeptWidth). w.segments) is)

pub returns-clause-rows : goal.returns-clause-rows
returns-clause-rows c =
    let raw = c.args.self.now in
    let step = c.args.width.step in
    let inside : step < length raw.widths.items = width_inside raw.widths.items step c.args.at c.requires.range in
    let is = read_width raw.widths.items step c.index_mut-rows.result.now inside c.index_mut-rows.ensures.value in
    lists_set raw.widths.items c.args.width c.swap_remove.new.self _ inside (c.swap_remove.ensures.rows ∙ ap (λ (w : KeptWidth). swap_remove w.rows c.args.at nobody) is)

pub returns-clause-room : goal.returns-clause-room
returns-clause-room c =
    let raw = c.args.self.now in
    let step = c.args.width.step in
    let inside : step < length raw.widths.items = width_inside raw.widths.items step c.args.at c.requires.range in
    let is = read_width raw.widths.items step c.index_mut-rows.result.now inside c.index_mut-rows.ensures.value in
    roomy_set raw _ c.requires.room step c.swap_remove.new.self inside refl refl refl refl (c.swap_remove.ensures.most ∙ ap (λ (w : KeptWidth). w.most) is) (c.swap_remove.ensures.limit ∙ ap (λ (w : KeptWidth). w.limit) is) c.swap_remove.ensures.few
    (omega (arith, c.swap_remove.ensures.segments, ap (λ (w : KeptWidth). w.segments) is)) c.swap_remove.ensures.list

pub returns-clause-owner : goal.returns-clause-owner
returns-clause-owner c =
    let raw = c.args.self.now in
    let step = c.args.width.step in
    let inside : step < length raw.widths.items = width_inside raw.widths.items step c.args.at c.requires.range in
    let is = read_width raw.widths.items step c.index_mut-rows.result.now inside c.index_mut-rows.ensures.value in
    c.swap_remove.ensures.owner ∙ ap (λ (w : KeptWidth). (row_at w.rows (length w.rows - 1)).owner) is
