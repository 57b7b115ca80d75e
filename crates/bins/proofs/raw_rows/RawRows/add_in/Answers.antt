use Rattle.std.proofs.Common.{◌<◌, ◌++◌, ◌∷◌, [], length, refl, ap, ◌∙◌, arith}
use Rattle.bins.specs.KeptRows.{kept}
use Rattle.bins.specs.Segments.{KeptWidth}
use Rattle.bins.proofs.RoomLemmas.{lists_set, read_width, roomy_set}
use Rattle.bins.proofs.raw_rows.RawRows.add_in.Goals as goal

pub index_mut-rows-requires : goal.index_mut-rows-requires
index_mut-rows-requires c =
    let raw = c.args.self.now in
    let step = c.args.width.step in
    let inside : step < length raw.widths.items = c.requires.range in
    omega (arith, inside, raw.widths.ok.0)

pub push-touched-requires-clause-limit : goal.push-touched-requires-clause-limit
push-touched-requires-clause-limit c =
    let raw = c.args.self.now in
    let step = c.args.width.step in
    let inside : step < length raw.widths.items = c.requires.range in
    let is = read_width raw.widths.items step c.index_mut-rows.result.now inside c.index_mut-rows.ensures.value in
    let enough = c.requires.room.room.limits step inside in omega (arith, c.requires.few, enough, ap (λ (w : KeptWidth). length w.rows) is, ap (λ (w : KeptWidth). w.limit) is)

pub push-touched-requires-clause-near : goal.push-touched-requires-clause-near
push-touched-requires-clause-near c =
    let raw = c.args.self.now in
    let step = c.args.width.step in
    let inside : step < length raw.widths.items = c.requires.range in
    let is = read_width raw.widths.items step c.index_mut-rows.result.now inside c.index_mut-rows.ensures.value in
    omega (arith, c.requires.few, c.requires.room.room.near, ap (λ (w : KeptWidth). length w.rows) is)

pub push-touched-requires-clause-fit : goal.push-touched-requires-clause-fit
push-touched-requires-clause-fit c =
    let raw = c.args.self.now in
    let step = c.args.width.step in
    let inside : step < length raw.widths.items = c.requires.range in
    let is = read_width raw.widths.items step c.index_mut-rows.result.now inside c.index_mut-rows.ensures.value in
    omega (arith, c.requires.fit.both, ap (λ (w : KeptWidth). w.most) is)

pub returns-clause-rows : goal.returns-clause-rows
returns-clause-rows c =
    let raw = c.args.self.now in
    let step = c.args.width.step in
    let inside : step < length raw.widths.items = c.requires.range in
    let is = read_width raw.widths.items step c.index_mut-rows.result.now inside c.index_mut-rows.ensures.value in
    lists_set raw.widths.items c.args.width c.push-touched.new.self _ inside (c.push-touched.ensures.rows ∙ ap (λ (w : KeptWidth). w.rows ++ kept c.args.key.now c.args.value.now c.args.owner ∷ []) is)

pub returns-clause-room : goal.returns-clause-room
returns-clause-room c =
    let raw = c.args.self.now in
    let step = c.args.width.step in
    let inside : step < length raw.widths.items = c.requires.range in
    let is = read_width raw.widths.items step c.index_mut-rows.result.now inside c.index_mut-rows.ensures.value in
    roomy_set raw _ c.requires.room step c.push-touched.new.self inside refl refl refl refl (c.push-touched.ensures.most ∙ ap (λ (w : KeptWidth). w.most) is) (c.push-touched.ensures.limit ∙ ap (λ (w : KeptWidth). w.limit) is) c.push-touched.ensures.few
    (omega (arith, c.push-touched.ensures.segments, ap (λ (w : KeptWidth). w.segments) is)) c.push-touched.ensures.list
