use Rattle.bins.proofs.MapEdits.{table_of-none}
use Rattle.bins.proofs.list_bins.ListBinsBins.open.Goals as goal

pub returns : goal.returns
returns c = record { ok = table_of-none _ c.new.ensures.items }
