use Rattle.std.proofs.Common.{[], ap, ◌∙◌}
use Rattle.redis_service.specs.Replied.{replied_bytes}
use Rattle.redis_service.specs.Texts.{count_line}
use Rattle.redis_service.proofs.SendLemmas.{sends_of}
use Rattle.redis_service.proofs.desk.RedisDesk.answer_keys.Goals as goal

pub returns-in-Delete-clause-answers : goal.returns-in-Delete-clause-answers
returns-in-Delete-clause-answers g c =
    let (founds, each, is) = c.remove_each-count.ensures.count in (
      replied_bytes c.count_of.result [],
      sends_of c.send.result (g.W.Sink.state c.args.sink.now) (g.W.Sink.state c.send.new.sink) _ c.send.ensures.ok c.send.ensures.err,
      rw c.in-Delete.is (founds, rw c.at-at.ensures.time at each, c.count_of.ensures [] ∙ ap count_line is),
    )

pub returns-in-CountPresent-clause-answers : goal.returns-in-CountPresent-clause-answers
returns-in-CountPresent-clause-answers g c =
    let (founds, each, is) = c.count_each-count.ensures.count in (
      replied_bytes c.count_of-in-CountPresent.result [],
      sends_of c.send-in-CountPresent.result (g.W.Sink.state c.args.sink.now) (g.W.Sink.state c.send-in-CountPresent.new.sink) _ c.send-in-CountPresent.ensures.ok c.send-in-CountPresent.ensures.err,
      rw c.in-CountPresent.is (founds, rw c.at-at.ensures.time at each, c.count_of-in-CountPresent.ensures [] ∙ ap count_line is),
    )
