use Rattle.std.proofs.Common.{[], refl}
use Rattle.resp.specs.Replies.{value_bytes}
use Rattle.redis_service.specs.Replied.{replied_bytes}
use Rattle.redis_service.specs.Texts.{count_line}
use Rattle.redis_service.proofs.SendLemmas.{sends_of}
use Rattle.redis_service.proofs.clients.answer_clients.Goals as goal

pub returns-in-List-clause-answers : goal.returns-in-List-clause-answers
returns-in-List-clause-answers g c = let (w, sends, lists) = c.put_all.ensures in (w, sends, rw c.in-List.is (lists, refl))

pub returns-in-Nobody-clause-answers : goal.returns-in-Nobody-clause-answers
returns-in-Nobody-clause-answers g c = (
  value_bytes [],
  sends_of c.put_value.result (g.W.Sink.state c.args.sink.now) (g.W.Sink.state c.put_value.new.sink) _ c.put_value.ensures.ok c.put_value.ensures.err,
  rw c.in-Nobody.is (refl, refl),
)

pub returns-in-Named-clause-answers : goal.returns-in-Named-clause-answers
returns-in-Named-clause-answers g c = let (w, sends, lists) = c.put_named.ensures in (w, sends, rw c.in-Named.is (lists, refl))

pub returns-in-Own-clause-answers : goal.returns-in-Own-clause-answers
returns-in-Own-clause-answers g c = let (w, sends, lists) = c.put_own.ensures in (w, sends, rw c.in-Own.is (lists, refl))

pub returns-in-KillAt-clause-answers : goal.returns-in-KillAt-clause-answers
returns-in-KillAt-clause-answers g c = (
  replied_bytes c.killed_line.result [],
  sends_of c.send.result (g.W.Sink.state c.args.sink.now) (g.W.Sink.state c.send.new.sink) _ c.send.ensures.ok c.send.ensures.err,
  rw c.in-KillAt.is (c.kill_at-is_killed.result, c.killed_line.ensures [], c.kill_at-is_killed.ensures.talk, c.kill_at-is_killed.ensures.none),
)

pub returns-in-Kill-clause-answers : goal.returns-in-Kill-clause-answers
returns-in-Kill-clause-answers g c = (
  count_line c.kill-count.result,
  sends_of c.send-in-Kill.result (g.W.Sink.state c.args.sink.now) (g.W.Sink.state c.send-in-Kill.new.sink) _ c.send-in-Kill.ensures.ok c.send-in-Kill.ensures.err,
  rw c.in-Kill.is ((c.kill-count.result, refl, c.kill-count.ensures.none), c.kill-count.ensures.talk, c.kill-count.ensures.spared),
)
