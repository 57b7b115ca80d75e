use Rattle.std.proofs.Common.{sym}
use Rattle.bins.proofs.MapEdits.{remove_absent}
use Rattle.bins.proofs.bins.Bins.remove.Goals as goal

-- the key had no value
pub returns-in_err-find-clause-others : goal.returns-in_err-find-clause-others
returns-in_err-find-clause-others g c = sym (remove_absent _ _ (sym c.in_err-find.ensures.value))
