use Rattle.std.proofs.Common.{take, All}
use Rattle.crews.specs.Steps.{IsLike}
use Rattle.crews.proofs.serving.show_agrees.Given as goal

-- the tokens so far are like the one more
abbrev pub invariant-loop-other : goal.invariant-loop-other
invariant-loop-other l = All (λ t. IsLike t l.token) (take l.other-index l.tokens)
