use Rattle.std.proofs.Common.{◌≡◌, ℕ, List, [], Some, subst, ◌∙◌}
use Rattle.redis_service.specs.Sending.{Sends}
use Rattle.redis_service.specs.Walks.{keys_bytes, shown}
use Rattle.redis_service.proofs.SendLemmas.{takes_none}
use Rattle.redis_service.proofs.walks.put_found.Goals as goal

pub returns : goal.returns
returns g c =
    let before = g.W.Sink.state c.args.sink.now in
    let after = g.W.Sink.state c.put_keys.new.sink in
    let same : c.deref.result.now ≡ shown (Some c.args.pattern.now) c.in-Ok.keys.items = c.deref.ensures.value ∙ c.shown-keys.ensures in
    rw c.in-Ok.is
    (subst (λ (t : List (List ℕ)). Sends c.put_keys.result before after (keys_bytes t)) same (c.put_keys.ensures before [] (takes_none before)))
