use Rattle.kept_file.specs.Rows.{kept_number}
use Rattle.kept_file.proofs.AppendLemmas.{appends}
use Rattle.kept_file.proofs.DeleteLemmas.{on_ok}
use Rattle.kept_file.proofs.save.append.Goals as goal

-- the batch comes after all others
pub returns-clause-batches : goal.returns-clause-batches
returns-clause-batches g c clean has = on_ok _ _ _ (appends (kept_number c.args.stripe) c.args.batch.now.bytes.items _ _ has) (rw c.as_slice.ensures at c.enter.ensures.made clean)
