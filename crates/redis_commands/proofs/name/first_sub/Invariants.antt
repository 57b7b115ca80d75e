use Rattle.std.proofs.Common.{◌≡◌, drop}
use Rattle.redis_commands.specs.Names.{first_sub}
use Rattle.redis_commands.proofs.name.first_sub.Given as goal

-- none of those so far has the word
abbrev pub invariant-loop-sub : goal.invariant-loop-sub
invariant-loop-sub l = first_sub (drop l.sub-index l.subs) l.word ≡ first_sub l.subs l.word
