use Rattle.redis_service.proofs.SendLemmas.{sent_more, not_sent, part_more}
use Rattle.redis_service.proofs.reply.Replied.send_after.Goals as goal

pub returns-clause-more : goal.returns-clause-more
returns-clause-more g c before said sends =
    sent_more c.send.result before (g.W.Sink.state c.args.sink.now) (g.W.Sink.state c.send.new.sink) said _ (rw c.in_ok-sent.was at sends) c.send.ensures.ok c.send.ensures.err

pub returns-in_err-sent-clause-more : goal.returns-in_err-sent-clause-more
returns-in_err-sent-clause-more g c before said sends =
    not_sent c.from_residual.result before (g.W.Sink.state c.args.sink.now) _ c.from_residual.ensures.0 (part_more before (g.W.Sink.state c.args.sink.now) said _ (rw c.in_err-sent.was at sends))
