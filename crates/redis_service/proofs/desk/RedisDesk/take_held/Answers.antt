use Rattle.std.proofs.Common.{◌∙◌, sym, ap, length, rules}
use Rattle.redis_service.proofs.TalkLemmas.{taken_of, answers_held, breaks_of_fails}
use Rattle.redis_service.proofs.desk.RedisDesk.take_held.Goals as goal

pub returns-in_default-clause-taken : goal.returns-in_default-clause-taken
returns-in_default-clause-taken g c =
    let S = g.W.Sink.state in
    breaks_of_fails c.args.moment.now.time c.args.moment.now.refuses (S c.args.sink.now) (S c.answer_bytes.new.sink) c.args.talk.now c.answer_bytes.new.talk c.end.new.self c.args.pass.now c.answer_bytes.new.pass c.args.held.items
    (rw c.deref.ensures.value at c.in_default.ensures.err) c.end.ensures

pub returns-clause-taken : goal.returns-clause-taken
returns-clause-taken g c =
    let S = g.W.Sink.state in
    taken_of c.args.moment.now.time c.args.moment.now.refuses c.finish.result (S c.args.sink.now) (S c.answer_bytes.new.sink) (S c.finish.new.sink) c.args.talk.now c.answer_bytes.new.talk c.finish.new.talk c.args.pass.now c.answer_bytes.new.pass c.args.held.items
    c.in-Ok.rest.now c.in-Ok.fault (rw c.deref.ensures.value at c.in-Ok.ensures.ok) c.finish.ensures.tells

pub returns-then-not-is_over-clause-taken : goal.returns-then-not-is_over-clause-taken
returns-then-not-is_over-clause-taken g c =
    let S = g.W.Sink.state in
    answers_held c.args.moment.now.time c.args.moment.now.refuses (S c.args.sink.now) (S c.answer_bytes.new.sink) c.args.talk.now c.answer_bytes.new.talk c.hold.new.self c.args.pass.now c.answer_bytes.new.pass c.args.held.items
    c.in-Ok.rest.now c.in-Ok.fault (rw c.deref.ensures.value at c.in-Ok.ensures.ok) (c.if-rest-len.true ∙ c.len.ensures ∙ sym c.deref.ensures.len ∙ ap length c.deref.ensures.value) (search rules) (search rules) c.hold.ensures
