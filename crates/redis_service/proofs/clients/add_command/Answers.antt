use Rattle.redis_service.proofs.ClientLemmas.{two_added}
use Rattle.redis_service.proofs.clients.add_command.Goals as goal

pub returns : goal.returns
returns c name =
    two_added c.add-2.result c.args.text.now.items c.add.new.text.items c.add-2.new.text.items _ c.args.command.now c.in_ok-add.ensures c.add-2.ensures
