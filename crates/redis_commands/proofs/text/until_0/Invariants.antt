use Rattle.std.proofs.Common.{◌≡◌, ◌++◌, take, drop}
use Rattle.redis_commands.specs.Texts.{until_0}
use Rattle.redis_commands.proofs.text.until_0.Given as goal

-- none of the bytes so far is 0
abbrev pub invariant-loop-i : goal.invariant-loop-i
invariant-loop-i l = take l.i l.word ++ until_0 (drop l.i l.word) ≡ until_0 l.word
