use Rattle.std.proofs.Common.{◌≡◌, ◌<◌, ◌≤◌, ◌-◌, ℕ, false}
use Rattle.sqlite.specs.Held.{state}
use Rattle.sqlite.specs.State.{HasCleanDisk, Survives}
use Rattle.bin_stripes.specs.Passes.{ServesSameMap, stripes_of}
use Rattle.map_keeper.specs.Saves.{IsWhole, MadeOnlySaves}
use Rattle.map_keeper.specs.Written.{IsSavedSince, may_part}
use Rattle.map_keeper.proofs.PartLemmas.{IsFresh, LeavesBelow, SavesBelow}
use Rattle.map_keeper.proofs.taker.Taker.save_all.Given as goal

-- the stripes below `from` are whole, and were saved in transactions that were committed
abbrev pub invariant-loop-reached : goal.invariant-loop-reached
invariant-loop-reached g l = record {
  map : l.self.pass.map ≡ l.fn.self.pass.map;
  same : ServesSameMap l.fn.self.pass l.self.pass;
  made : MadeOnlySaves l.fn.self.pass.view l.self.pass.view;
  within : l.from ≤ stripes_of l.shared.map.now;
  fresh : IsFresh l.fn.self.pass.view l.self.pass.view l.from;
  whole : (j : ℕ) → j < l.from → IsWhole l.self.pass j;
  ends : (j : ℕ) → j < l.from → IsSavedSince l.had.takes_anew l.fn.self.pass.view l.self.pass.view j;
  wrote : HasCleanDisk (state g.S.Store l.conn)
      → SavesBelow (state g.S.Store) l.had.takes_anew l.fn.self.pass.view l.self.pass.view (stripes_of l.shared.map.now) l.from l.fn.conn l.conn;
  crash : Survives (state g.S.Store l.fn.conn) (state g.S.Store l.conn)
      (LeavesBelow (state g.S.Store) l.had.takes_anew l.fn.self.pass.view l.self.pass.view (stripes_of l.shared.map.now) l.from l.fn.conn);
  at_once : may_part l.had.in_file.stripes (stripes_of l.shared.map.now) ≡ false → (l.from ≡ 0) × (l.self.pass ≡ l.fn.self.pass) × (l.conn ≡ l.fn.conn);
}

-- the stripes that are left
abbrev pub decreases-loop-reached : goal.decreases-loop-reached
decreases-loop-reached g l = stripes_of l.shared.map.now - l.from
