use Rattle.std.proofs.Common.{rules, ◌≡◌, length, set, refl, ap, arith, ◌∙◌}
use Rattle.std.proofs.lemmas.List.{length-set}
use Rattle.bins.specs.declared.locations.Location.TheVariants.{In}
use Rattle.bins.specs.KeptRows.{kept}
use Rattle.bins.specs.Rows.{lists_in, rows_in}
use Rattle.bins.proofs.PoolLemmas.{spare_free}
use Rattle.bins.proofs.RowLemmas.{spare}
use Rattle.bins.proofs.RoomLemmas.{opened, roomy_as}
use Rattle.bins.proofs.RowSteps.{Changed, changed_as, filled}
use Rattle.bins.proofs.raw_rows.RawRows.fill.Goals as goal

-- there are lists for each width
pub width_of-width-requires-clause-widths : goal.width_of-width-requires-clause-widths
width_of-width-requires-clause-widths c = opened c.args.self.now c.requires.room c.args.position c.requires.range

pub len_in-at-requires : goal.len_in-at-requires
len_in-at-requires c = let all = (opened c.args.self.now c.requires.room c.args.position c.requires.range).all in omega (arith, all, c.width_of-width.ensures.range)

pub add_in-requires-clause-range : goal.add_in-requires-clause-range
add_in-requires-clause-range c = let all = (opened c.args.self.now c.requires.room c.args.position c.requires.range).all in omega (arith, all, c.width_of-width.ensures.range)

-- a vacant position leaves a segment free
pub add_in-requires-clause-spare : goal.add_in-requires-clause-spare
add_in-requires-clause-spare c =
    let raw = c.args.self.now in
    let room = c.requires.room in
    spare_free raw.widths.items raw.locations.items c.args.position raw.room (length raw.free.items) c.requires.rows c.requires.range c.requires.vacant room.inside room.few room.room.segments

pub add_in-requires-clause-few : goal.add_in-requires-clause-few
add_in-requires-clause-few c =
    let raw = c.args.self.now in
    let k = c.width_of-width.result in
    omega (arith, spare k raw.locations.items (rows_in raw k) c.args.position (c.requires.rows.matched k) c.requires.range c.requires.vacant, c.requires.room.inside)

pub add_in-requires-clause-fit : goal.add_in-requires-clause-fit
add_in-requires-clause-fit c = record { both = c.width_of-width.ensures.fit; value_fits = c.requires.value }

pub new-requires : goal.new-requires
new-requires c =
    let raw = c.args.self.now in
    let k = c.width_of-width.result in (
      omega (arith, c.width_of-width.ensures.range),
      omega (arith, c.len_in-at.ensures.value, spare k raw.locations.items (rows_in raw k) c.args.position (c.requires.rows.matched k) c.requires.range c.requires.vacant, c.requires.rows.few),
    )

-- the location names the row that was added
pub returns : goal.returns
returns c =
    let raw = c.args.self.now in
    let ps = raw.locations.items in
    let p = c.args.position in
    let k = c.width_of-width.result in
    let key = c.args.key.now in
    let value = c.args.value.now in
    let after = c.add_in.new.self in
    let location : c.new.result ≡ In k (length (rows_in raw k)) = c.new.ensures ∙ ap (In k) c.len_in-at.ensures.value in
    let now : Changed ps (lists_in raw) p key value (set after.locations.items p c.new.result) (lists_in after) =
    changed_as ps (lists_in raw) p key value _ _ _ (lists_in after)
    (λ i. set (c.add_in.ensures.locations i).items p (location i)) c.add_in.ensures.rows
    (filled ps (lists_in raw) c.requires.rows k p c.requires.range c.requires.vacant (kept key value p) refl) in
    record {
      rows = now.rows;
      keys = now.keys;
      values = now.values;
      many = search rules;
      room = roomy_as after _ refl refl refl refl (omega (arith, length-set after.locations.items p c.new.result, c.add_in.ensures.room.inside)) c.add_in.ensures.room;
      same = c.add_in.ensures.same;
    }
