use Rattle.std.proofs.Common.{◌≡◌}
use Rattle.bulk_walks.specs.Turns.{CountsTurns}
use Rattle.bulk_walks.proofs.count.count_turns.Given as goal

-- the stripes of its turns so far were scanned and counted
abbrev pub invariant-loop-stripe : goal.invariant-loop-stripe
invariant-loop-stripe g l = record {
  map : l.pass.map ≡ l.fn.pass.map;
  done : CountsTurns l.stripe l.worker.workers l.worker.number l.fn.pass.view l.pass.view l.count;
}
