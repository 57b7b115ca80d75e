use Rattle.redis_commands.specs.Commands.{texts}
use Rattle.redis_service.specs.Clients.{IsNamed}
use Rattle.redis_service.proofs.ClientLemmas.{lists_of}
use Rattle.redis_service.proofs.clients.put_named.Goals as goal

pub returns : goal.returns
returns g c =
    let (w, sends, says) = c.put_lines.ensures in
    (w, sends, lists_of (IsNamed (texts c.args.words.now)) c.args.moment.now.time c.named_lines.result w c.named_lines.ensures says)
