use Rattle.std.proofs.Common.{[]}
use Rattle.redis_service.proofs.SendLemmas.{takes_none}
use Rattle.redis_service.proofs.connection.put_hello.Goals as goal

pub returns : goal.returns
returns g c =
    let before = g.W.Sink.state c.args.sink.now in
    let h1 = c.send_after-sent.ensures.more before [] (takes_none before) in
    let h2 = c.send_after-sent-2.ensures.more before _ h1 in
    c.send_after.ensures.more before _ h2
