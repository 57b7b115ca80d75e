use Rattle.std.proofs.Common.{◌≡◌, length, sym, ◌∙◌}
use Rattle.bins.specs.Rows.{keys_in, lists_in, values_in}
use Rattle.bins.proofs.RowWrites.{pushed_string}
use Rattle.bins.proofs.RowSteps.{keys_length, values_length}
use Rattle.bins.proofs.raw_rows.RawRows.push_reserved.Goals as goal

-- the strings are written at the position that was added
pub returns-clause-keys : goal.returns-clause-keys
returns-clause-keys c =
    let raw = c.args.self.now in
    let at : c.len-position.result ≡ length (keys_in raw) = c.len-position.ensures ∙ raw.locations.ok.0 ∙ sym (keys_length raw.locations.items (lists_in raw)) in
    c.fill.ensures.keys ∙ pushed_string (keys_in raw) (keys_in c.push_vacant.new.self) c.len-position.result c.args.key.now c.push_vacant.ensures.keys at

pub returns-clause-values : goal.returns-clause-values
returns-clause-values c =
    let raw = c.args.self.now in
    let at : c.len-position.result ≡ length (values_in raw) = c.len-position.ensures ∙ raw.locations.ok.0 ∙ sym (values_length raw.locations.items (lists_in raw)) in
    c.fill.ensures.values ∙ pushed_string (values_in raw) (values_in c.push_vacant.new.self) c.len-position.result c.args.value.now c.push_vacant.ensures.values at
