use Rattle.sqlite.specs.Held.{state}
use Rattle.kept_file.proofs.ReadLemmas.{clean_before}
use Rattle.kept_file.proofs.TablesLemmas.{lists_before}
use Rattle.kept_file.proofs.file.KeptFile.check.Goals as goal

pub returns-in-Ok-eq3-clause-lists : goal.returns-in-Ok-eq3-clause-lists
returns-in-Ok-eq3-clause-lists g c clean =
    let old = state g.S.Store c.args.self.now.conn in
    let file = state g.S.Store c.setting.new.conn in
    let after = state g.S.Store c.expect_kept_objects.new.conn in
    lists_before c.expect_kept_objects.result old file (c.in-Ok-eq3.ensures.same (clean_before file after (λ _. ⊥) c.expect_kept_objects.ensures.kept clean)) (c.expect_kept_objects.ensures.lists clean)
