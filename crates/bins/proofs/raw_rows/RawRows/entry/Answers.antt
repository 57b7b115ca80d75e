use Rattle.std.proofs.Common.{sym, ◌∙◌}
use Rattle.bins.proofs.raw_rows.RawRows.entry.Goals as goal

-- a location names an existing row
pub entry_in-requires : goal.entry_in-requires
entry_in-requires c = ((c.requires.rows.matched c.in-In.width).named _ _ (sym c.location.ensures.value ∙ c.in-In.is)).0
