use Rattle.std.proofs.Common.{◌≡◌, ℕ}
use Rattle.sqlite.specs.Held.{state}
use Rattle.sqlite.specs.State.{HasCleanDisk, Survives}
use Rattle.map_keeper.specs.Written.{WritesOthers}
use Rattle.map_keeper.proofs.saving.save_programs.Given as goal

-- the steps so far were made
abbrev pub invariant-loop-number : goal.invariant-loop-number
invariant-loop-number g l = record {
  same_reference : l.save.conn.ghost_name ≡ l.fn.save.conn.ghost_name;
  wrote : (stripes : ℕ) → HasCleanDisk (state g.S.Store l.save.conn.now) → WritesOthers (state g.S.Store) stripes l.fn.save.conn.now l.save.conn.now;
  kept : Survives (state g.S.Store l.fn.save.conn.now) (state g.S.Store l.save.conn.now) (λ _. ⊥);
}
