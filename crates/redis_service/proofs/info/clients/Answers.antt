use Rattle.std.proofs.Common.{◌≡◌, ℕ, List, [], ◌∷◌, IfOk, codes, subst, ◌∙◌}
use Rattle.redis_service.specs.Server.{joined}
use Rattle.redis_service.proofs.info.clients.Goals as goal

pub returns : goal.returns
returns c =
    subst (λ (t : List ℕ). IfOk c.joined.result (λ text. text.items ≡ joined (codes "# Clients\r\n" ∷ t ∷ codes "blocked_clients:0\r\n\r\n" ∷ [])))
    (c.as_slice.ensures.value ∙ c.line-connected.ensures) c.joined.ensures
