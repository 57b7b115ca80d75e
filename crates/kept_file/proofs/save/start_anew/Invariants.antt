use Rattle.std.proofs.Common.{◌≡◌, take}
use Rattle.sqlite.specs.Held.{state}
use Rattle.sqlite.specs.State.{HasCleanDisk, Survives}
use Rattle.kept_file.specs.Saves.{Removes}
use Rattle.kept_file.proofs.save.start_anew.Given as goal

-- the batches of the first rows are gone
abbrev pub invariant-loop-row : goal.invariant-loop-row
invariant-loop-row g l = record {
  same_reference : l.save.conn.ghost_name ≡ l.fn.save.conn.ghost_name;
  removed : HasCleanDisk (state g.S.Store l.save.conn.now) → Removes (state g.S.Store) (take l.row-index l.row-items) l.initial.save.conn.now l.save.conn.now;
  kept : Survives (state g.S.Store l.initial.save.conn.now) (state g.S.Store l.save.conn.now) (λ _. ⊥);
}
