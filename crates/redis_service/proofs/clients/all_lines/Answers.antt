use Rattle.std.proofs.Common.{sym, subst, List, ℕ}
use Rattle.redis_service.specs.Clients.{AreLines, IsAny}
use Rattle.redis_service.proofs.ClientLemmas.{nobody}
use Rattle.redis_service.proofs.clients.all_lines.Goals as goal

pub loop-worker-init : goal.loop-worker-init
loop-worker-init g c =
    subst (λ (t : List ℕ). AreLines IsAny c.args.moment.now.time t) (sym c.new-text.ensures.items) (nobody IsAny c.args.moment.now.time)
