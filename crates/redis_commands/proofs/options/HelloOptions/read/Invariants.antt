use Rattle.std.proofs.Common.{◌≡◌, length}
use Rattle.redis_commands.specs.Commands.{texts}
use Rattle.redis_commands.specs.Options.{hello_options}
use Rattle.redis_commands.specs.Reading.{hello_view}
use Rattle.redis_commands.proofs.OptionLemmas.{hello_left}
use Rattle.redis_commands.proofs.options.HelloOptions.read.Given as goal

-- the words that are left come to what all words come to
abbrev pub invariant-loop-left : goal.invariant-loop-left
invariant-loop-left l = hello_left (hello_view l.options) (texts l.left) ≡ hello_options (texts l.words)

abbrev pub decreases-loop-left : goal.decreases-loop-left
decreases-loop-left l = length l.left
