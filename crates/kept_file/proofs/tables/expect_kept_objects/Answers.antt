use Rattle.kept_file.proofs.ReadLemmas.{objects_read}
use Rattle.kept_file.proofs.tables.expect_kept_objects.Goals as goal

pub all_rows-requires : goal.all_rows-requires
all_rows-requires g c = objects_read
