use Rattle.std.proofs.Common.{◌≡◌, refl, sym, ◌∙◌}
use Rattle.bins.specs.declared.locations.Location.TheVariants.{In}
use Rattle.bins.specs.KeptRows.{KeptRow, kept, location_at, row_at}
use Rattle.bins.specs.Rows.{keys_in, lists_in, rows_in}
use Rattle.bins.proofs.RowLemmas.{string_read}
use Rattle.bins.proofs.RowSteps.{Changed, changed_as, overwritten, written_same}
use Rattle.bins.proofs.raw_rows.RawRows.set_value.Goals as goal

-- a location names an existing row
pub stays-requires-clause-range : goal.stays-requires-clause-range
stays-requires-clause-range c = ((c.requires.rows.matched c.in-In.width).named _ _ (sym c.location.ensures.value ∙ c.in-In.is)).0

-- the row's value is replaced
pub returns-in-In : goal.returns-in-In
returns-in-In c =
    let raw = c.args.self.now in
    let ps = raw.locations.items in
    let p = c.args.position in
    let k = c.in-In.width in
    let at = c.in-In.at in
    let row = row_at (rows_in raw k) at in
    let value = c.args.bytes.now in
    let after = c.set_value_in.new.self in
    let named : location_at ps p ≡ In k at = sym c.location.ensures.value ∙ c.in-In.is in
    let now : Changed ps (lists_in raw) p row.key value after.locations.items (lists_in after) =
    changed_as ps (lists_in raw) p row.key value _ _ _ (lists_in after) (λ i. (c.set_value_in.ensures.locations i).items) c.set_value_in.ensures.rows
    (overwritten ps (lists_in raw) c.requires.rows k p at named (kept row.key value row.owner) refl) in
    record {
      rows = now.rows;
      keys = now.keys ∙ written_same (keys_in raw) p row.key (string_read k (λ (r : KeptRow). r.key) ps (lists_in raw) p at c.requires.range named);
      values = now.values;
      room = c.set_value_in.ensures.room;
      same = c.set_value_in.ensures.same;
    }
