use Rattle.redis_service.specs.Clients.{IsAny}
use Rattle.redis_service.proofs.ClientLemmas.{lists_of}
use Rattle.redis_service.proofs.clients.put_all.Goals as goal

pub returns : goal.returns
returns g c =
    let (w, sends, says) = c.put_lines.ensures in
    (w, sends, lists_of IsAny c.args.moment.now.time c.all_lines.result w c.all_lines.ensures says)
