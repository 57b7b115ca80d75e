use Rattle.std.proofs.Common.{take}
use Rattle.map_keeper.specs.Restores.{AreRestored}
use Rattle.map_keeper.proofs.restoring.register_all.Given as goal

-- the tokens so far are of the first programs
abbrev pub invariant-loop-program : goal.invariant-loop-program
invariant-loop-program g l = AreRestored l.registry (take l.program-index l.programs) l.tokens.items
