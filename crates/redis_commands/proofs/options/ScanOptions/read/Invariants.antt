use Rattle.std.proofs.Common.{◌≡◌, length}
use Rattle.redis_commands.specs.Commands.{texts}
use Rattle.redis_commands.specs.Options.{scan_options}
use Rattle.redis_commands.specs.Reading.{scan_view}
use Rattle.redis_commands.proofs.OptionLemmas.{scan_left}
use Rattle.redis_commands.proofs.options.ScanOptions.read.Given as goal

-- the words that are left come to what all words come to
abbrev pub invariant-loop-left : goal.invariant-loop-left
invariant-loop-left l = scan_left (scan_view l.options) (texts l.left) ≡ scan_options (texts l.words)

abbrev pub decreases-loop-left : goal.decreases-loop-left
decreases-loop-left l = length l.left
