use Rattle.redis_service.proofs.WalkLemmas.{count_keeps}
use Rattle.redis_service.proofs.walks.count.Goals as goal

pub returns-clause-numbers : goal.returns-clause-numbers
returns-clause-numbers g c = count_keeps _ _ _ c.count_all.ensures.counts
