-- the commands so far are answered
use Rattle.std.proofs.Common.{◌≡◌, ℕ, List, length}
use Rattle.devices.specs.Devices.{TakesBytes}
use Rattle.redis_service.specs.Talks.{AnswersSome}
use Rattle.redis_service.proofs.desk.RedisDesk.answer_all.Given as goal

abbrev pub invariant-loop-reader : goal.invariant-loop-reader
invariant-loop-reader g l = record {
  desk : l.self ≡ l.fn.self;
  map : l.pass.map ≡ l.fn.pass.map;
  passes : l.pass.view.passes ≡ l.fn.pass.view.passes;
  numbers : l.pass.view.numbers ≡ l.fn.pass.view.numbers;
  number : l.talk.number ≡ l.fn.talk.number;
  some : (written : List ℕ) × TakesBytes (g.W.Sink.state l.fn.sink) (g.W.Sink.state l.sink) written
      × AnswersSome l.fn.moment.time l.fn.moment.refuses l.fn.talk l.fn.pass l.fn.reader.rest.now written l.talk l.pass l.reader.rest.now;
}

abbrev pub decreases-loop-reader : goal.decreases-loop-reader
decreases-loop-reader g l = length l.reader.rest.now
