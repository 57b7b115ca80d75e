use Rattle.std.proofs.Common.{sym, ◌∙◌}
use Rattle.bins.proofs.raw_rows.RawRows.rewrite_listed.Goals as goal

-- a location names an existing row
pub has_key-requires : goal.has_key-requires
has_key-requires c = ((c.requires.rows.matched c.in-In.width).named _ _ (sym c.location.ensures.value ∙ c.in-In.is)).0
