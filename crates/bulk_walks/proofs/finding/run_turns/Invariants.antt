use Rattle.std.proofs.Common.{◌≡◌, ◌+◌, ◌*◌, ◌^◌, ◌≤◌, ◌++◌, List, length}
use Rattle.bins.specs.Table.{Entry}
use Rattle.bin_stripes.specs.Passes.{stripes_of}
use Rattle.bulk_walks.specs.Kept.{IsGathered}
use Rattle.bulk_walks.specs.Turns.{WorkerFinds}
use Rattle.bulk_walks.proofs.finding.run_turns.Given as goal

-- the stripes of its turns so far were scanned; the program has run on the early entries
abbrev pub invariant-loop-stripe : goal.invariant-loop-stripe
invariant-loop-stripe g l = record {
  map : l.pass.map ≡ l.fn.pass.map;
  walk : l.finds.walk.now ≡ l.walk;
  early : List Entry;
  done : WorkerFinds (stripes_of l.worker.map.now) l.stripe l.worker.workers l.worker.number l.fn.pass.view l.pass.view (early ++ l.finds.waiting);
  gathered : IsGathered l.walk.kind l.walk.program.now l.walk.arg.now early l.finds.gathered;
  few : l.finds.gathered.scanned + length l.finds.waiting ≤ l.stripe * 2 ^ 57;
}
