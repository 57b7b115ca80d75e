use Rattle.std.proofs.Common.{take, All}
use Rattle.crews.specs.Steps.{IsLike}
use Rattle.crews.proofs.tokens.show_same.Given as goal

-- the tokens so far mean what the others do
abbrev pub invariant-loop-token : goal.invariant-loop-token
invariant-loop-token l = All (λ token. All (λ other. IsLike other token) l.others) (take l.token-index l.tokens)
