-- what was told, and what is left to tell
use Rattle.std.proofs.Common.{◌≡◌, ◌++◌, length}
use Rattle.clap.specs.Walk.{texts}
use Rattle.map_commands.specs.Shown.{told}
use Rattle.map_commands.proofs.shown.told.Given as goal

abbrev pub invariant-loop-rest : goal.invariant-loop-rest
invariant-loop-rest l = l.shown.items ++ told (texts l.words) l.rest ≡ told (texts l.words) l.text

abbrev pub decreases-loop-rest : goal.decreases-loop-rest
decreases-loop-rest l = length l.rest
