use Rattle.std.proofs.Common.{◌≡◌, ◌==◌}
use Rattle.sqlite.specs.Held.{state}
use Rattle.sqlite.specs.State.{Survives}
use Rattle.bin_stripes.specs.Passes.{ServesSameMap, stripes_of}
use Rattle.map_keeper.proofs.RestoreLemmas.{FileSoFar}
use Rattle.map_keeper.proofs.restoring.Replay.apply_all.Given as goal

-- the changes of the batches so far were made
abbrev pub invariant-loop : goal.invariant-loop
invariant-loop g l = record {
  map : l.pass.map ≡ l.fn.pass.map;
  same : ServesSameMap l.fn.pass l.pass;
  same_reference : l.batches.conn.ghost_name ≡ l.fn.batches.conn.ghost_name;
  kept : Survives (state g.S.Store l.fn.batches.conn.now) (state g.S.Store l.batches.conn.now) (λ _. ⊥);
  file : FileSoFar g.S.Store (l.self.had == stripes_of l.self.map.now) l.self.time l.batch.number l.fn.batches.conn.now l.batches.conn.now l.fn.pass l.pass;
}
