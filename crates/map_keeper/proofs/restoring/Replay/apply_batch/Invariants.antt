use Rattle.std.proofs.Common.{◌≡◌, ◌==◌}
use Rattle.bin_stripes.specs.Passes.{ServesSameMap, stripes_of}
use Rattle.map_keeper.proofs.RestoreLemmas.{BatchSoFar}
use Rattle.map_keeper.proofs.restoring.Replay.apply_batch.Given as goal

-- the changes so far were made, and these bytes are left
abbrev pub invariant-loop : goal.invariant-loop
invariant-loop g l = record {
  map : l.pass.map ≡ l.fn.pass.map;
  same : ServesSameMap l.fn.pass l.pass;
  batch : BatchSoFar (l.self.had == stripes_of l.self.map.now) l.self.time l.batch.stripe l.batch.bytes.items l.rest l.fn.pass l.pass;
}
