use Rattle.std.proofs.Common.{◌≡◌, ◌≤◌, length}
use Rattle.map_server.proofs.passwords.fill.Given as goal

abbrev pub invariant-loop : goal.invariant-loop
invariant-loop g l = (l.filled ≤ length l.room) × (length l.room ≡ length l.initial.room)
