use Rattle.std.proofs.Common.{◌≡◌, length}
use Rattle.redis_commands.specs.Commands.{texts, filter_view}
use Rattle.redis_commands.specs.Clients.{filter_of, no_filter}
use Rattle.redis_commands.proofs.command.ClientFilter.read.Given as goal

-- the words that are left come to what all words come to
abbrev pub invariant-loop-left : goal.invariant-loop-left
invariant-loop-left l = filter_of (filter_view l.filter) (texts l.left) ≡ filter_of no_filter (texts l.words)

abbrev pub decreases-loop-left : goal.decreases-loop-left
decreases-loop-left l = length l.left
