use Rattle.redis_service.proofs.TalkLemmas.{taken_of, breaks_of_fails}
use Rattle.redis_service.proofs.desk.RedisDesk.take_bytes.Goals as goal

pub returns-in_default-clause-taken : goal.returns-in_default-clause-taken
returns-in_default-clause-taken g c =
    let S = g.W.Sink.state in
    breaks_of_fails c.args.moment.now.time c.args.moment.now.refuses (S c.args.sink.now) (S c.answer_bytes.new.sink) c.args.talk.now c.answer_bytes.new.talk c.end.new.self c.args.pass.now c.answer_bytes.new.pass c.args.bytes.now
    c.in_default.ensures.err c.end.ensures

pub returns-clause-taken : goal.returns-clause-taken
returns-clause-taken g c =
    let S = g.W.Sink.state in
    taken_of c.args.moment.now.time c.args.moment.now.refuses c.finish.result (S c.args.sink.now) (S c.answer_bytes.new.sink) (S c.finish.new.sink) c.args.talk.now c.answer_bytes.new.talk c.finish.new.talk c.args.pass.now c.answer_bytes.new.pass c.args.bytes.now
    c.in-Ok.rest.now c.in-Ok.fault c.in-Ok.ensures.ok c.finish.ensures.tells
