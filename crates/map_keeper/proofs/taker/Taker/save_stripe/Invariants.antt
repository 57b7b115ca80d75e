use Rattle.std.proofs.Common.{◌≡◌, ◌≢◌, ℕ}
use Rattle.sqlite.specs.Held.{state}
use Rattle.sqlite.specs.State.{HasCleanDisk, Survives}
use Rattle.stripe_rule.specs.Gains.{Keeps}
use Rattle.bin_stripes.specs.Passes.{ServesSameMap}
use Rattle.map_keeper.specs.Saves.{MadeOnlySaves}
use Rattle.map_keeper.proofs.WriteLemmas.{Handed, Wrote}
use Rattle.map_keeper.proofs.taker.Taker.save_stripe.Given as goal

-- the rounds so far made only saves of this stripe, and the steps of their rows were made
abbrev pub invariant-loop-round : goal.invariant-loop-round
invariant-loop-round g l = record {
  map : l.self.pass.map ≡ l.fn.self.pass.map;
  same : ServesSameMap l.fn.self.pass l.self.pass;
  made : MadeOnlySaves l.fn.self.pass.view l.self.pass.view;
  elsewhere : (j : ℕ) → j ≢ l.stripe → Keeps l.fn.self.pass.view l.self.pass.view j;
  same_reference : l.save.conn.ghost_name ≡ l.fn.save.conn.ghost_name;
  handed : Handed l.anew l.fn.self.pass.view l.self.pass.view l.stripe l.round;
  wrote : HasCleanDisk (state g.S.Store l.save.conn.now)
      → Wrote (state g.S.Store) l.anew l.fn.self.pass.view l.self.pass.view l.stripe l.round l.fn.save.conn.now l.save.conn.now;
  kept : Survives (state g.S.Store l.fn.save.conn.now) (state g.S.Store l.save.conn.now) (λ _. ⊥);
}
