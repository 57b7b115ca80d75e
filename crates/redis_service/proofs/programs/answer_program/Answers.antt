use Rattle.resp.specs.Replies.{error_bytes}
use Rattle.redis_service.specs.Replied.{replied_bytes}
use Rattle.redis_service.proofs.SendLemmas.{sends_of}
use Rattle.redis_service.proofs.programs.answer_program.Goals as goal

pub returns-in-Exists-clause-answers : goal.returns-in-Exists-clause-answers
returns-in-Exists-clause-answers g c =
    let (w, sends, answers) = c.mark_each.ensures.answers c.args.programs.now.at.time c.args.pass.now in (w, sends, rw c.in-Exists.is answers)

pub returns-in-Call-clause-answers : goal.returns-in-Call-clause-answers
returns-in-Call-clause-answers g c = (
  replied_bytes c.call_digest-replied.result c.as_slice.result.now,
  sends_of c.send.result (g.W.Sink.state c.args.sink.now) (g.W.Sink.state c.send.new.sink) _ c.send.ensures.ok c.send.ensures.err,
  rw (c.in-Call.is, c.as_slice.ensures.value) (rw c.set_from.ensures at c.call_digest-replied.ensures.answers),
)

pub returns-in-Ok-clause-answers : goal.returns-in-Ok-clause-answers
returns-in-Ok-clause-answers g c = (
  replied_bytes c.in-Ok.replied c.as_slice-in-Ok.result.now,
  sends_of c.send-in-Ok.result (g.W.Sink.state c.args.sink.now) (g.W.Sink.state c.send-in-Ok.new.sink) _ c.send-in-Ok.ensures.ok c.send-in-Ok.ensures.err,
  rw (c.in-Eval.is, c.as_slice-in-Ok.ensures.value) (rw c.set_from-in-Eval.ensures at c.in-Ok.ensures.ok),
)

pub returns-in-Err-clause-answers : goal.returns-in-Err-clause-answers
returns-in-Err-clause-answers g c = (
  error_bytes c.as_slice-in-Err.result.now,
  sends_of c.put_error.result (g.W.Sink.state c.args.sink.now) (g.W.Sink.state c.put_error.new.sink) _ c.put_error.ensures.ok c.put_error.ensures.err,
  rw (c.in-Eval.is, c.as_slice-in-Err.ensures.value, c.message.ensures) (rw c.set_from-in-Eval.ensures at c.in-Err.ensures.err),
)
