use Rattle.std.proofs.Common.{[], refl}
use Rattle.redis_service.specs.Replied.{replied_bytes}
use Rattle.redis_service.proofs.SendLemmas.{sends_of}
use Rattle.redis_service.proofs.desk.RedisDesk.answer_command.Goals as goal

pub returns-in-SetEach-clause-answers : goal.returns-in-SetEach-clause-answers
returns-in-SetEach-clause-answers g c = (
  replied_bytes c.put_each-replied.result [],
  sends_of c.send.result (g.W.Sink.state c.args.sink.now) (g.W.Sink.state c.send.new.sink) _ c.send.ensures.ok c.send.ensures.err,
  rw c.in-SetEach.is (rw c.at-at.ensures.time at (c.put_each-replied.ensures.answers []), refl),
)

pub returns-in-Connection-clause-answers : goal.returns-in-Connection-clause-answers
returns-in-Connection-clause-answers g c =
    let (w, sends, answers) = c.answer_connection-sent.ensures.answers c.args.pass.now in (w, sends, rw c.in-Connection.is answers)

pub returns-in-Server-clause-answers : goal.returns-in-Server-clause-answers
returns-in-Server-clause-answers g c =
    let (w, sends, answers) = c.answer_server.ensures.answers in (w, sends, rw c.in-Server.is answers)

pub returns-in-Walk-clause-answers : goal.returns-in-Walk-clause-answers
returns-in-Walk-clause-answers g c =
    let (w, sends, answers) = c.answer_walk.ensures.answers in (w, sends, rw c.in-Walk.is (answers, refl))

pub returns-in-Program-clause-answers : goal.returns-in-Program-clause-answers
returns-in-Program-clause-answers g c =
    let (w, sends, answers) = c.answer_program.ensures.answers in (w, sends, rw c.in-Program.is (rw c.programs-programs.ensures.time at answers, refl))
