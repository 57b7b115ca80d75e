use Rattle.std.proofs.Common.{◌∙◌, arith}
use Rattle.std.proofs.lemmas.Result.{err_from_is_err_and}
use Rattle.sessions.specs.Answering.{responses_of}
use Rattle.sessions.proofs.AnsweringLemmas.{answered_more, cut_at}
use Rattle.sessions.proofs.session.conversation.answer_all.Goals as goal

pub returns-in_err-send-clause-err : goal.returns-in_err-send-clause-err
returns-in_err-send-clause-err g c =
    let p = err_from_is_err_and c.from_residual.result c.from_residual.ensures.1 in
    let (behind, (v, taken, before)) = c.loop-request.invariant in
    rw p.1 (cut_at g.S.Service.answers (g.W.Sink.state c.args.sink.now) (g.W.Sink.state c.loop-request.sink) (g.W.Sink.state c.send.new.writer) c.args.came.hello c.loop-request.hello _ _ _ c.args.came.requests.now c.loop-request.request-index c.request-item.result (responses_of c.answer-answered.result c.answer-answered.new.arg5) v (omega arith) c.request-item.is behind taken before (c.requires.answer.does _ _ _ _ _ _ _ c.answer-answered.ensures) c.in_err-send.ensures.err)

pub loop-request-preserved : goal.loop-request-preserved
loop-request-preserved g c =
    let (behind, (v, taken, before)) = c.loop-request.invariant in
    let (next, more) = answered_more g.S.Service.answers (g.W.Sink.state c.args.sink.now) (g.W.Sink.state c.loop-request.sink) (g.W.Sink.state c.send.new.writer) c.args.came.hello c.loop-request.hello _ _ _ c.args.came.requests.now c.loop-request.request-index c.request-item.result (responses_of c.answer-answered.result c.answer-answered.new.arg5) v (omega arith) c.request-item.is behind taken before (c.requires.answer.does _ _ _ _ _ _ _ c.answer-answered.ensures) c.in_ok-send.ensures.ok in
    (c.hello_after-hello.ensures ∙ next, more)
