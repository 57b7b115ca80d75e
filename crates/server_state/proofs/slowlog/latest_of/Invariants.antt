-- no more than were looked at
use Rattle.std.proofs.Common.{◌≤◌, length}
use Rattle.server_state.proofs.slowlog.latest_of.Given as goal

abbrev pub invariant-loop-later : goal.invariant-loop-later
invariant-loop-later l = length l.latest.items ≤ l.later
