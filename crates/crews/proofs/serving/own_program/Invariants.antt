use Rattle.std.proofs.Common.{◌≢◌, take, All}
use Rattle.program_registry.specs.Tokens.{token_number}
use Rattle.crews.proofs.serving.own_program.Given as goal

-- none of the tokens so far has the number
abbrev pub invariant-loop-token : goal.invariant-loop-token
invariant-loop-token l = All (λ token. token_number token ≢ l.number) (take l.token-index l.tokens)
