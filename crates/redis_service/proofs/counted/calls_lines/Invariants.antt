-- the lines of the commands so far
use Rattle.redis_service.specs.Counted.{AreCalls}
use Rattle.redis_service.proofs.counted.calls_lines.Given as goal

abbrev pub invariant-loop-noted : goal.invariant-loop-noted
invariant-loop-noted l = AreCalls l.text.items
