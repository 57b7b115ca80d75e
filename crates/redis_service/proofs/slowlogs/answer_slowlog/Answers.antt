use Rattle.std.proofs.Common.{refl}
use Rattle.redis_service.specs.Slowlogs.{help_lines}
use Rattle.redis_service.specs.Texts.{count_line, ok_line}
use Rattle.redis_service.proofs.SendLemmas.{sends_of}
use Rattle.redis_service.proofs.slowlogs.answer_slowlog.Goals as goal

pub returns-in-Get : goal.returns-in-Get
returns-in-Get g c = let (w, sends, tells) = c.put_latest.ensures in (w, sends, rw c.in-Get.is tells)

pub returns-in-Length : goal.returns-in-Length
returns-in-Length g c = (
  count_line c.len.result,
  sends_of c.send.result (g.W.Sink.state c.args.sink.now) (g.W.Sink.state c.send.new.sink) _ c.send.ensures.ok c.send.ensures.err,
  rw c.in-Length.is (c.len.result, refl),
)

pub returns-in-Reset : goal.returns-in-Reset
returns-in-Reset g c = (
  ok_line,
  sends_of c.send-in-Reset.result (g.W.Sink.state c.args.sink.now) (g.W.Sink.state c.send-in-Reset.new.sink) _ c.send-in-Reset.ensures.ok c.send-in-Reset.ensures.err,
  rw c.in-Reset.is refl,
)

pub returns-in-Help : goal.returns-in-Help
returns-in-Help g c = (
  help_lines,
  sends_of c.send-in-Help.result (g.W.Sink.state c.args.sink.now) (g.W.Sink.state c.send-in-Help.new.sink) _ c.send-in-Help.ensures.ok c.send-in-Help.ensures.err,
  rw c.in-Help.is refl,
)
