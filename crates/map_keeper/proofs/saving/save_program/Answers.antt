use Rattle.std.proofs.Common.{inr, refl}
use Rattle.sqlite.specs.Held.{state}
use Rattle.map_keeper.proofs.WriteLemmas.{on_ok, others_one}
use Rattle.map_keeper.proofs.saving.save_program.Goals as goal

-- the step of a program
pub returns-clause-wrote : goal.returns-clause-wrote
returns-clause-wrote g c stripes clean =
    on_ok c.program-2.result _ _ (others_one (state g.S.Store) stripes _ c.args.save.now.conn.now c.program-2.new.save.conn.now (inr (inr (inr (_, _, _, refl))))) (c.program-2.ensures.made clean)
