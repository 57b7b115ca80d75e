use Rattle.std.proofs.Common.{◌≡◌, refl, ap, length, arith, ◌∙◌}
use Rattle.bins.specs.declared.locations.Location.TheVariants.{In}
use Rattle.bins.specs.KeptRows.{KeptRow, kept, location_at, row_at}
use Rattle.bins.specs.Rows.{keys_in, lists_in, rows_in}
use Rattle.bins.proofs.RoomLemmas.{width_inside}
use Rattle.bins.proofs.RowLemmas.{inside, string_read}
use Rattle.bins.proofs.RowSteps.{Changed, changed_as, overwritten, written_same}
use Rattle.bins.proofs.raw_rows.RawRows.overwrite.Goals as goal

pub suits-requires : goal.suits-requires
suits-requires c = width_inside c.args.self.now.widths.items c.args.width.step c.args.at c.requires.range

pub set_value_in-requires-clause-fit : goal.set_value_in-requires-clause-fit
set_value_in-requires-clause-fit c = record {
  both = omega (arith, c.suits.ensures.fit c.if-suits.true, ap length c.requires.key);
  value_fits = c.requires.fits;
}

-- the row's value is replaced, and its owner's location names it
pub returns-then-suits : goal.returns-then-suits
returns-then-suits c =
    let raw = c.args.self.now in
    let ps = raw.locations.items in
    let k = c.args.width in
    let at = c.args.at in
    let row = row_at (rows_in raw k) at in
    let p = c.owner_in-position.result in
    let value = c.args.bytes.now in
    let after = c.set_value_in.new.self in
    let named : location_at ps p ≡ In k at = ap (location_at ps) c.owner_in-position.ensures.value ∙ (c.requires.rows.matched k).owned at c.requires.range in
    let range = inside k ps p at named in
    let now : Changed ps (lists_in raw) p row.key value after.locations.items (lists_in after) =
    changed_as ps (lists_in raw) p row.key value _ _ _ (lists_in after) (λ i. (c.set_value_in.ensures.locations i).items) c.set_value_in.ensures.rows
    (overwritten ps (lists_in raw) c.requires.rows k p at named (kept row.key value row.owner) refl) in
    let key = string_read k (λ (r : KeptRow). r.key) ps (lists_in raw) p at range named in
    record {
      rows = now.rows;
      room = c.set_value_in.ensures.room;
      range = range;
      keys = now.keys ∙ written_same (keys_in raw) p row.key key;
      key = key ∙ c.requires.key;
      values = now.values;
      not = tt;
    }
