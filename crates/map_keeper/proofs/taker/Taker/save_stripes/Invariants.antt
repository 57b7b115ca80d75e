use Rattle.std.proofs.Common.{◌≡◌, ◌<◌, ◌≤◌, ℕ}
use Rattle.sqlite.specs.Held.{state}
use Rattle.sqlite.specs.State.{HasCleanDisk, Survives}
use Rattle.bin_stripes.specs.Passes.{ServesSameMap}
use Rattle.map_keeper.specs.Saves.{IsWhole, MadeOnlySaves}
use Rattle.map_keeper.specs.Written.{IsSavedSince, SavesBetween}
use Rattle.map_keeper.proofs.PartLemmas.{IsFresh, IsKept}
use Rattle.map_keeper.proofs.taker.Taker.save_stripes.Given as goal

-- the stripes so far are whole, and the steps of their rows were made
abbrev pub invariant-loop-stripe : goal.invariant-loop-stripe
invariant-loop-stripe g l = record {
  map : l.self.pass.map ≡ l.fn.self.pass.map;
  same : ServesSameMap l.fn.self.pass l.self.pass;
  made : MadeOnlySaves l.fn.self.pass.view l.self.pass.view;
  below : IsKept l.fn.self.pass.view l.self.pass.view l.from;
  fresh : IsFresh l.fn.self.pass.view l.self.pass.view l.stripe;
  whole : (j : ℕ) → l.from ≤ j → j < l.stripe → IsWhole l.self.pass j;
  ends : (j : ℕ) → l.from ≤ j → j < l.stripe → IsSavedSince l.had.takes_anew l.fn.self.pass.view l.self.pass.view j;
  same_reference : l.save.conn.ghost_name ≡ l.fn.save.conn.ghost_name;
  wrote : HasCleanDisk (state g.S.Store l.save.conn.now)
      → SavesBetween (state g.S.Store) l.had.takes_anew l.fn.self.pass.view l.self.pass.view l.from l.stripe l.fn.save.conn.now l.save.conn.now;
  kept : Survives (state g.S.Store l.fn.save.conn.now) (state g.S.Store l.save.conn.now) (λ _. ⊥);
}
