use Rattle.std.proofs.Common.{arith, ◌∙◌}
use Rattle.crews.proofs.TokenLemmas.{found_here}
use Rattle.crews.proofs.serving.own_program.Goals as goal

pub returns-then-number : goal.returns-then-number
returns-then-number c =
    found_here c.args.registry.now c.args.tokens.now c.loop-token.token-index c.token-item.result c.args.number c.known_safe.result.now (omega arith) c.token-item.is c.requires.agree
    (omega (arith, c.if-number.true, c.number.ensures)) (c.known_safe.ensures.same ∙ c.get_by.ensures.value) c.known_safe.ensures.safe
