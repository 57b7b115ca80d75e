use Rattle.std.proofs.Common.{◌≡◌}
use Rattle.bin_stripes.specs.Passes.{stripes_of}
use Rattle.bulk_walks.specs.Turns.{ReplacesTurns}
use Rattle.bulk_walks.proofs.replace.replace_turns.Given as goal

-- the stripes of its turns so far were replaced and counted
abbrev pub invariant-loop-stripe : goal.invariant-loop-stripe
invariant-loop-stripe g l = record {
  map : l.pass.map ≡ l.fn.pass.map;
  done : ReplacesTurns (stripes_of l.worker.map.now) l.program l.arg l.stripe l.worker.workers l.worker.number l.fn.pass.view l.pass.view l.total;
}
