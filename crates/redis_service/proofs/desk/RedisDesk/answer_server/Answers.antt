use Rattle.std.proofs.Common.{[], ◌/◌, refl}
use Rattle.redis_service.specs.Replied.{replied_bytes}
use Rattle.redis_service.specs.Texts.{count_line}
use Rattle.redis_service.proofs.SendLemmas.{sends_of}
use Rattle.redis_service.proofs.desk.RedisDesk.answer_server.Goals as goal

pub returns-in-Info-clause-answers : goal.returns-in-Info-clause-answers
returns-in-Info-clause-answers g c =
    let (w, sends, answers) = c.answer_info.ensures.answers in (w, sends, rw c.in-Info.is (answers, refl))

pub returns-in-Save-clause-answers : goal.returns-in-Save-clause-answers
returns-in-Save-clause-answers g c = (
  replied_bytes c.save_line.result [],
  sends_of c.send.result (g.W.Sink.state c.args.sink.now) (g.W.Sink.state c.send.new.sink) _ c.send.ensures.ok c.send.ensures.err,
  rw c.in-Save.is (c.save.result, (c.save_line.ensures [], refl, refl)),
)

pub returns-in-SaveLater-clause-answers : goal.returns-in-SaveLater-clause-answers
returns-in-SaveLater-clause-answers g c = (
  replied_bytes c.later_line.result [],
  sends_of c.send-in-SaveLater.result (g.W.Sink.state c.args.sink.now) (g.W.Sink.state c.send-in-SaveLater.new.sink) _ c.send-in-SaveLater.ensures.ok c.send-in-SaveLater.ensures.err,
  rw c.in-SaveLater.is (c.save_later.result, (c.later_line.ensures [], refl, refl)),
)

pub returns-in-Shutdown-clause-answers : goal.returns-in-Shutdown-clause-answers
returns-in-Shutdown-clause-answers g c =
    let (w, sends, answers) = c.shut_down.ensures.answers c.args.pass.now in (w, sends, rw c.in-Shutdown.is answers)

pub returns-in-LastSaved-clause-answers : goal.returns-in-LastSaved-clause-answers
returns-in-LastSaved-clause-answers g c = (
  count_line (c.last_save-seconds.result / 1000),
  sends_of c.send-in-LastSaved.result (g.W.Sink.state c.args.sink.now) (g.W.Sink.state c.send-in-LastSaved.new.sink) _ c.send-in-LastSaved.ensures.ok c.send-in-LastSaved.ensures.err,
  rw c.in-LastSaved.is (c.last_save-seconds.result / 1000, (refl, refl, refl)),
)

pub returns-in-Clients-clause-answers : goal.returns-in-Clients-clause-answers
returns-in-Clients-clause-answers g c =
    let (w, sends, answers) = c.answer_clients.ensures.answers in (w, sends, rw c.in-Clients.is (answers, refl))

pub returns-in-Slowlog-clause-answers : goal.returns-in-Slowlog-clause-answers
returns-in-Slowlog-clause-answers g c =
    let (w, sends, answers) = c.answer_slowlog.ensures in (w, sends, rw c.in-Slowlog.is (answers, refl, refl))
