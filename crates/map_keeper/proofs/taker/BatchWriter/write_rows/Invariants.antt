use Rattle.std.proofs.Common.{◌≡◌, take}
use Rattle.sqlite.specs.Held.{state}
use Rattle.sqlite.specs.State.{HasCleanDisk, Survives}
use Rattle.map_keeper.specs.Written.{Pending}
use Rattle.map_keeper.proofs.taker.BatchWriter.write_rows.Given as goal

-- the rows so far were written, or are in the batch
abbrev pub invariant-loop-place : goal.invariant-loop-place
invariant-loop-place g l = record {
  same_reference : l.save.conn.ghost_name ≡ l.fn.save.conn.ghost_name;
  pending : HasCleanDisk (state g.S.Store l.save.conn.now) → Pending (state g.S.Store) l.stripe (take l.place l.changes) l.self.batch.bytes.items l.fn.save.conn.now l.save.conn.now;
  kept : Survives (state g.S.Store l.fn.save.conn.now) (state g.S.Store l.save.conn.now) (λ _. ⊥);
}
