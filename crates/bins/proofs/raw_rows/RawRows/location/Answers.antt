use Rattle.std.proofs.Common.{refl, sym, ◌∙◌}
use Rattle.bins.proofs.RowLemmas.{read_location}
use Rattle.bins.proofs.raw_rows.RawRows.location.Goals as goal

-- the list of locations says it
pub returns : goal.returns
returns c = record { value = c.get.ensures.value ∙ sym (read_location c.args.self.now.locations.items c.args.position c.index-word.result.now _ c.requires.range c.index-word.ensures refl) }
