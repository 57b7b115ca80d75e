use Rattle.map_keeper.proofs.SaveLemmas.{one_save}
use Rattle.map_keeper.proofs.taker.Taker.take.Goals as goal

-- the pass made one save
pub returns-in-Ok-clause-made : goal.returns-in-Ok-clause-made
returns-in-Ok-clause-made g c = one_save _ _ _ _ _ _ c.in-Ok.ensures.ok
