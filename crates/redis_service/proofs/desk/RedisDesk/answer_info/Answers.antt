use Rattle.redis_service.proofs.CountLemmas.{count_keeps}
use Rattle.redis_service.proofs.desk.RedisDesk.answer_info.Goals as goal

pub returns-clause-numbers : goal.returns-clause-numbers
returns-clause-numbers g c = count_keeps _ _ _ c.count_all-keys.ensures.counts

pub returns-clause-answers : goal.returns-clause-answers
returns-clause-answers g c =
    let (calls, w, sends, says) = c.put_info.ensures in
    (w, sends, (c.numbers-info.result, calls, rw c.numbers-info.ensures c.count_all-keys.ensures.counts, says))
