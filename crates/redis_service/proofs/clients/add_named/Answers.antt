use Rattle.std.proofs.Common.{◌∙◌}
use Rattle.redis_service.specs.Clients.{IsNamed}
use Rattle.redis_service.proofs.ClientLemmas.{after_line}
use Rattle.redis_service.proofs.clients.add_named.Goals as goal

pub returns-in-Some : goal.returns-in-Some
returns-in-Some g c words k below is lines =
    after_line (IsNamed words) c.args.moment.now.time c.args.text.now.items c.add_line.new.text.items c.in-Some.view c.as_slice.result.now c.add_line.result
    lines (λ command. (k, below, is ∙ c.in-Some.ensures)) c.add_line.ensures
