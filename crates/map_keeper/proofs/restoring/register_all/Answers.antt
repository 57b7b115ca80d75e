use Rattle.std.proofs.Common.{◌≡◌, List, [], ◌∷◌, ◌++◌, rules, subst, sym}
use Rattle.kept_file.proofs.RowLemmas.{all_taken}
use Rattle.kept_file.specs.declared.rows.KeptProgram.{KeptProgram}
use Rattle.map_keeper.specs.Restores.{AreRestored}
use Rattle.map_keeper.proofs.RestoreLemmas.{restored_at}
use Rattle.map_keeper.proofs.restoring.register_all.Goals as goal

-- one more
pub loop-program-preserved : goal.loop-program-preserved
loop-program-preserved g c =
    let pushed : c.push.new.self.items ≡ c.loop-program.tokens.items ++ c.in_ok-token.token ∷ [] = search rules in
    subst (AreRestored c.args.registry.now _) (sym pushed)
    (restored_at c.args.registry.now c.args.programs.now c.loop-program.program-index c.loop-program.tokens.items c.program-item.result c.in_ok-token.token
    c.loop-program-test.true c.loop-program.invariant c.program-item.is c.in_ok-token.ensures)

-- all were gone through
pub returns : goal.returns
returns g c =
    subst (λ (l : List KeptProgram). AreRestored c.args.registry.now l c.loop-program.tokens.items)
    (all_taken c.args.programs.now c.loop-program.program-index c.loop-program-test.false) c.loop-program.invariant
