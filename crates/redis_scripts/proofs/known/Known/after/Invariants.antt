use Rattle.std.proofs.Common.{All}
use Rattle.redis_scripts.specs.Scripts.{IsLoadedText}
use Rattle.redis_scripts.proofs.known.Known.after.Given as goal

-- the texts so far are those of scripts
abbrev pub invariant-loop-place : goal.invariant-loop-place
invariant-loop-place l = All (λ text. IsLoadedText text.items) l.texts.items
