use Rattle.redis_service.specs.Clients.{IsAny}
use Rattle.redis_service.proofs.ClientLemmas.{after_line}
use Rattle.redis_service.proofs.clients.add_seat.Goals as goal

pub returns-in-Some : goal.returns-in-Some
returns-in-Some g c =
    after_line IsAny c.args.moment.now.time c.args.text.now.items c.add_line.new.text.items c.in-Some.view c.as_slice.result.now c.add_line.result
    c.requires (λ command. tt) c.add_line.ensures
