use Rattle.std.proofs.Common.{Ok}
use Rattle.sqlite.specs.Files.{file_state}
use Rattle.sqlite.proofs.Callers.{unchanged_then}
use Rattle.kept_file.proofs.ReadLemmas.{clean_before}
use Rattle.kept_file.proofs.TablesLemmas.{lists_before, tables_still}
use Rattle.kept_file.proofs.file.KeptFile+OnDisk.open.Goals as goal

pub returns-then-not-branch : goal.returns-then-not-branch
returns-then-not-branch c = record {
  tables = λ clean.
      let opened = file_state c.in_ok-connect.field-0 in
      let file = file_state c.has_no_tables.new.self.conn in
      let after = file_state c.check.new.self.conn in
      let middle = clean_before file after (λ _. ⊥) c.check.ensures.kept clean in
      let before = c.in_ok-has_no_tables.ensures.same middle in
      let later = c.in_ok-check.ensures.same clean in
      tables_still opened after (c.in_ok-connect.ensures (clean_before opened file (λ _. ⊥) c.has_no_tables.ensures.kept middle))
      (lists_before (Ok (tt {0})) opened file before (c.in_ok-check.ensures.lists clean)) (unchanged_then opened file after before later);
}
