use Rattle.std.proofs.Common.{◌∙◌, IsTrue, refl, sym, subst}
use Rattle.sqlite.specs.Held.{state}
use Rattle.map_keeper.proofs.SaveLemmas.{keeps_then, same_then, saves_at_first, saves_then}
use Rattle.map_keeper.proofs.WriteLemmas.{clean_before, handed_more, handed_none, handed_on, keeps_same, kept_then, survives_same, wrote_more, wrote_none, wrote_on}
use Rattle.map_keeper.proofs.taker.Taker.save_stripe.Goals as goal

-- no round yet
pub loop-round-init : goal.loop-round-init
loop-round-init g c = record {
  map = refl;
  same = record { map = refl; passes = refl };
  made = saves_at_first c.args.self.now.pass.view;
  elsewhere = λ j apart. keeps_same c.args.self.now.pass.view j;
  same_reference = refl;
  handed = handed_none c.args.anew c.args.self.now.pass.view c.args.stripe;
  wrote = λ clean. wrote_none (state g.S.Store) c.args.anew c.args.self.now.pass.view c.args.stripe c.args.save.now.conn.now;
  kept = survives_same (state g.S.Store c.args.save.now.conn.now);
}

-- a round was refused
pub returns-in_err-taken-clause-made : goal.returns-in_err-taken-clause-made
returns-in_err-taken-clause-made g c = saves_then c.args.self.now.pass.view c.loop-round.self.pass.view c.take.new.self.pass.view c.loop-round.invariant.made c.take.ensures.made

-- its rows could not be written
pub returns-in_err-write_round-clause-made : goal.returns-in_err-write_round-clause-made
returns-in_err-write_round-clause-made g c = saves_then c.args.self.now.pass.view c.loop-round.self.pass.view c.take.new.self.pass.view c.loop-round.invariant.made c.take.ensures.made

pub returns-in_err-write_round-clause-kept : goal.returns-in_err-write_round-clause-kept
returns-in_err-write_round-clause-kept g c = kept_then _ _ _ c.loop-round.invariant.kept c.write_round.ensures.kept

-- the last round
pub returns-then-not-leaves_noted-clause-made : goal.returns-then-not-leaves_noted-clause-made
returns-then-not-leaves_noted-clause-made g c = saves_then c.args.self.now.pass.view c.loop-round.self.pass.view c.take.new.self.pass.view c.loop-round.invariant.made c.take.ensures.made

pub returns-then-not-leaves_noted-clause-elsewhere : goal.returns-then-not-leaves_noted-clause-elsewhere
returns-then-not-leaves_noted-clause-elsewhere g c j apart = keeps_then c.args.self.now.pass.view c.loop-round.self.pass.view c.take.new.self.pass.view j (c.loop-round.invariant.elsewhere j apart) (c.take.ensures.elsewhere j apart)

pub returns-then-not-leaves_noted-clause-whole : goal.returns-then-not-leaves_noted-clause-whole
returns-then-not-leaves_noted-clause-whole g c = c.in_ok-taken.ensures.whole (sym c.leaves_noted.ensures ∙ c.if-not-leaves_noted.true)

pub returns-then-not-leaves_noted-clause-ends : goal.returns-then-not-leaves_noted-clause-ends
returns-then-not-leaves_noted-clause-ends g c =
    handed_more c.args.anew c.args.self.now.pass.view c.loop-round.self.pass c.args.stripe c.loop-round.round c.take.new.self.changes c.in_ok-taken.taken c.take.new.self.pass
    c.loop-round.invariant.handed c.in_ok-taken.ensures.handed
    (λ none yes. c.in_ok-taken.ensures.anew (subst IsTrue (sym (c.begins_with.ensures none)) yes))

pub returns-then-not-leaves_noted-clause-wrote : goal.returns-then-not-leaves_noted-clause-wrote
returns-then-not-leaves_noted-clause-wrote g c clean =
    wrote_more (state g.S.Store) c.args.anew c.args.self.now.pass.view c.loop-round.self.pass c.args.stripe c.loop-round.round c.take.new.self.changes c.in_ok-taken.taken c.take.new.self.pass
    c.args.save.now.conn.now c.loop-round.save.conn.now c.write_round.new.save.conn.now (c.loop-round.invariant.wrote (clean_before _ _ _ c.write_round.ensures.kept clean)) c.in_ok-taken.ensures.handed
    (λ none yes. c.in_ok-taken.ensures.anew (subst IsTrue (sym (c.begins_with.ensures none)) yes))
    (c.in_ok-write_round.ensures.made clean)

pub returns-then-not-leaves_noted-clause-kept : goal.returns-then-not-leaves_noted-clause-kept
returns-then-not-leaves_noted-clause-kept g c = kept_then _ _ _ c.loop-round.invariant.kept c.write_round.ensures.kept

-- one round more
pub loop-round-preserved : goal.loop-round-preserved
loop-round-preserved g c =
    let before = c.loop-round.invariant in
    let v = c.args.self.now.pass.view in
    let p = c.loop-round.self.pass in
    let q = c.take.new.self.pass in
    record {
      map = c.take.ensures.same.map ∙ before.map;
      same = same_then c.args.self.now.pass p q before.same c.take.ensures.same;
      made = saves_then v p.view q.view before.made c.take.ensures.made;
      elsewhere = λ j apart. keeps_then v p.view q.view j (before.elsewhere j apart) (c.take.ensures.elsewhere j apart);
      same_reference = c.write_round.ensures.same_reference ∙ before.same_reference;
      handed = handed_on c.args.anew v p c.args.stripe c.loop-round.round c.take.new.self.changes c.in_ok-taken.taken q before.handed c.in_ok-taken.ensures.handed
          (λ none yes. c.in_ok-taken.ensures.anew (subst IsTrue (sym (c.begins_with.ensures none)) yes));
      wrote = λ clean. wrote_on (state g.S.Store) c.args.anew v p c.args.stripe c.loop-round.round c.take.new.self.changes c.in_ok-taken.taken q
          c.args.save.now.conn.now c.loop-round.save.conn.now c.write_round.new.save.conn.now (before.wrote (clean_before _ _ _ c.write_round.ensures.kept clean)) c.in_ok-taken.ensures.handed
          (λ none yes. c.in_ok-taken.ensures.anew (subst IsTrue (sym (c.begins_with.ensures none)) yes))
          (c.in_ok-write_round.ensures.made clean);
      kept = kept_then _ _ _ before.kept c.write_round.ensures.kept;
    }
