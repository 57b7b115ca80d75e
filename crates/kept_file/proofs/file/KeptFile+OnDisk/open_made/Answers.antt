use Rattle.sqlite.specs.Files.{file_state}
use Rattle.kept_file.proofs.ReadLemmas.{clean_before}
use Rattle.kept_file.proofs.TablesLemmas.{tables_still}
use Rattle.kept_file.proofs.file.KeptFile+OnDisk.open_made.Goals as goal

pub returns : goal.returns
returns c = record {
  tables = λ clean.
      let file = file_state c.in_ok-connect.field-0 in
      let after = file_state c.check.new.self.conn in
      tables_still file after (c.in_ok-connect.ensures (clean_before file after (λ _. ⊥) c.check.ensures.kept clean)) (c.in_ok-check.ensures.lists clean) (c.in_ok-check.ensures.same clean);
}
