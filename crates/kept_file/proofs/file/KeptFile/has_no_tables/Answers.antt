use Rattle.kept_file.proofs.ReadLemmas.{count_read}
use Rattle.kept_file.proofs.file.KeptFile.has_no_tables.Goals as goal

pub returns-in-Ok : goal.returns-in-Ok
returns-in-Ok g c = record { same = λ clean. c.in-Ok.ensures.same count_read clean; kept = c.in-Ok.ensures.kept count_read }

pub returns-in-Err-clause-kept : goal.returns-in-Err-clause-kept
returns-in-Err-clause-kept g c = c.number_of.ensures.kept count_read
