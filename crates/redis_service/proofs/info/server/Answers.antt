use Rattle.std.proofs.Common.{◌≡◌, ℕ, List, [], ◌∷◌, IfOk, codes, subst, ◌∙◌}
use Rattle.redis_service.specs.Lines.{line_end}
use Rattle.redis_service.specs.Server.{joined}
use Rattle.redis_service.proofs.info.server.Goals as goal

pub returns : goal.returns
returns c =
    subst (λ (t : List ℕ). IfOk c.joined.result (λ text. text.items ≡ joined (codes "# Server\r\nredis_version:7.0.15\r\nredis_mode:standalone\r\n" ∷ t ∷ line_end ∷ [])))
    (c.as_slice.ensures.value ∙ c.line-uptime.ensures) c.joined.ensures
