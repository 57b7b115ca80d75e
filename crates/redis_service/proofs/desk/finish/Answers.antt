use Rattle.std.proofs.Common.{sym, ◌∙◌, rules}
use Rattle.redis_service.proofs.EndLemmas.{tells_fault, fails_fault}
use Rattle.redis_service.proofs.desk.finish.Goals as goal

pub returns-in-Ok-clause-tells : goal.returns-in-Ok-clause-tells
returns-in-Ok-clause-tells g c =
    tells_fault (g.W.Sink.state c.args.sink.now) (g.W.Sink.state c.put_error.new.sink) c.args.rest.now c.as_slice.result.now c.args.talk.now c.end-in-Some-Faulty.new.self c.args.fault c.in-Some-Faulty.fault
    c.requires.stops (search rules) (sym c.is_over.ensures ∙ c.if-is_over.false) c.end-in-Some-Faulty.ensures (c.as_slice.ensures.value ∙ c.message.ensures) c.in-Ok.ensures.ok

pub returns-in-Err-clause-tells : goal.returns-in-Err-clause-tells
returns-in-Err-clause-tells g c =
    fails_fault (g.W.Sink.state c.args.sink.now) (g.W.Sink.state c.put_error.new.sink) c.args.rest.now c.as_slice.result.now c.args.talk.now c.end-in-Some-Faulty.new.self c.args.fault c.in-Some-Faulty.fault
    c.requires.stops (search rules) (sym c.is_over.ensures ∙ c.if-is_over.false) c.end-in-Some-Faulty.ensures (c.as_slice.ensures.value ∙ c.message.ensures) c.in-Err.ensures.err
