use Rattle.std.proofs.Common.{[]}
use Rattle.redis_service.proofs.SendLemmas.{sends_of}
use Rattle.redis_service.proofs.walks.answer_walk.Goals as goal

pub returns-in-CountAll-clause-answers : goal.returns-in-CountAll-clause-answers
returns-in-CountAll-clause-answers g c =
    let told = sends_of c.send.result (g.W.Sink.state c.args.sink.now) (g.W.Sink.state c.send.new.sink) _ c.send.ensures.ok c.send.ensures.err in
    rw c.in-CountAll.is (_, told, c.count.ensures.answers [])

pub returns-in-RemoveAll-clause-answers : goal.returns-in-RemoveAll-clause-answers
returns-in-RemoveAll-clause-answers g c =
    let told = sends_of c.send-in-RemoveAll.result (g.W.Sink.state c.args.sink.now) (g.W.Sink.state c.send-in-RemoveAll.new.sink) _
    c.send-in-RemoveAll.ensures.ok c.send-in-RemoveAll.ensures.err in
    rw c.in-RemoveAll.is (_, told, c.clear.ensures.answers [])
