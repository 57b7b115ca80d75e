use Rattle.redis_service.specs.Clients.{IsOwn}
use Rattle.redis_service.proofs.ClientLemmas.{lists_of}
use Rattle.redis_service.proofs.clients.put_own.Goals as goal

pub returns : goal.returns
returns g c =
    let (w, sends, says) = c.put_lines.ensures in
    (w, sends, lists_of (IsOwn c.args.talk.now) c.args.moment.now.time c.own_lines.result w c.own_lines.ensures says)
