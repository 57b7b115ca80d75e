use Rattle.std.proofs.Common.{◌≡◌, length}
use Rattle.redis_commands.specs.Commands.{texts}
use Rattle.redis_commands.specs.Options.{set_options}
use Rattle.redis_commands.specs.Reading.{set_view}
use Rattle.redis_commands.proofs.OptionLemmas.{set_left}
use Rattle.redis_commands.proofs.options.SetOptions.read.Given as goal

-- the words that are left come to what all words come to
abbrev pub invariant-loop-left : goal.invariant-loop-left
invariant-loop-left l = set_left l.name (set_view l.options) (texts l.left) ≡ set_options l.name (texts l.words)

abbrev pub decreases-loop-left : goal.decreases-loop-left
decreases-loop-left l = length l.left
