use Rattle.sqlite.specs.Held.{state}
use Rattle.kept_file.proofs.ReadLemmas.{clean_before}
use Rattle.kept_file.proofs.TablesLemmas.{kept_tables}
use Rattle.map_keeper.proofs.keeper.Keeper.new.Goals as goal

pub returns-clause-tables : goal.returns-clause-tables
returns-clause-tables g c clean has =
    let file = state g.S.Store c.args.file.conn in
    let after = state g.S.Store c.stripes.new.self.conn in
    kept_tables file after (has (clean_before file after (λ _. ⊥) c.stripes.ensures.kept clean)) (c.in_ok-stripes.ensures.same clean)
