use Rattle.std.proofs.Common.{◌≡◌, ◌∙◌, ℕ, ◌≤◌, ◌<◌, true, false, refl, sym, ap, subst, arith}
use Rattle.sqlite.specs.Held.{Held, state}
use Rattle.sqlite.specs.State.{Survives}
use Rattle.stripe_rule.specs.Gains.{Keeps}
use Rattle.bin_stripes.specs.Passes.{PassState, stripes_of}
use Rattle.map_keeper.specs.Parts.{IsFurther, WouldStop, end_of}
use Rattle.map_keeper.specs.Saves.{IsWhole}
use Rattle.map_keeper.specs.Written.{IsSavedSince, SavesPart, WouldCommit, may_part}
use Rattle.map_keeper.specs.declared.taker.Reached.TheVariants.{Stripe}
use Rattle.map_keeper.proofs.SaveLemmas.{keeps_then, same_then, saves_at_first, saves_then}
use Rattle.map_keeper.proofs.WriteLemmas.{clean_before, keeps_same}
use Rattle.map_keeper.proofs.PartLemmas.{below_more, below_none, crash_failed, crash_last, crash_more, crash_none, crash_whole, from_start, map_saved, since_then, whole_more}
use Rattle.map_keeper.proofs.taker.Taker.save_all.Goals as goal

-- no stripe yet
pub loop-reached-init : goal.loop-reached-init
loop-reached-init g c =
    let v = c.args.self.now.pass.view in
    let stripes = stripes_of c.args.shared.now.map.now in
    let anew = c.args.had.now.takes_anew in
    record {
      map = refl;
      same = record { map = refl; passes = refl };
      made = saves_at_first v;
      within = omega arith;
      fresh = λ j up. keeps_same v j;
      whole = λ j low. absurd (omega (arith, low));
      ends = λ j low. absurd (omega (arith, low));
      wrote = λ clean. below_none (state g.S.Store) anew v stripes c.args.conn.now;
      crash = crash_none g.S.Store anew v stripes c.args.conn.now;
      at_once = λ one. (refl, refl, refl);
    }

-- one part more
pub loop-reached-preserved : goal.loop-reached-preserved
loop-reached-preserved g c =
    let before = c.loop-reached.invariant in
    let p = c.loop-reached.self.pass in
    let q = c.save_part.new.self.pass in
    let v = c.args.self.now.pass.view in
    let stripes = stripes_of c.args.shared.now.map.now in
    let anew = c.args.had.now.takes_anew in
    let from = c.loop-reached.from in
    let next = c.in-Stripe.next in
    let parts = may_part c.args.had.now.in_file.stripes stripes in
    let is : c.in_ok-reached.reached ≡ Stripe next = c.in-Stripe.is in
    let further : IsFurther parts stripes from (Stripe next) = subst (IsFurther parts stripes from) is c.in_ok-reached.ensures.next in
    let end : end_of stripes c.in_ok-reached.reached ≡ next = ap (end_of stripes) is in
    let kept = c.save_part.ensures.below in
    let above = subst (λ (e : ℕ). (j : ℕ) → e ≤ j → Keeps p.view q.view j) end c.in_ok-reached.ensures.above in
    let whole = subst (λ (e : ℕ). (k : ℕ) → from ≤ k → k < e → IsWhole q k) end c.in_ok-reached.ensures.whole in
    let ends = subst (λ (e : ℕ). (k : ℕ) → from ≤ k → k < e → IsSavedSince anew p.view q.view k) end c.in_ok-reached.ensures.ends in
    let crash = subst (λ (e : ℕ). Survives (state g.S.Store c.loop-reached.conn) (state g.S.Store c.save_part.new.conn) (WouldCommit (state g.S.Store) anew p.view q.view stripes from e c.loop-reached.conn)) end
    c.in_ok-reached.ensures.crash in
    record {
      map = c.save_part.ensures.same.map ∙ before.map;
      same = same_then c.args.self.now.pass p q before.same c.save_part.ensures.same;
      made = saves_then v p.view q.view before.made c.save_part.ensures.made;
      within = omega (arith, further.1);
      fresh = λ j up. keeps_then v p.view q.view j (before.fresh j (omega (arith, up, further.0))) (above j up);
      whole = whole_more p q from next c.save_part.ensures.same kept before.whole whole;
      ends = since_then anew v p.view q.view from next before.fresh kept before.ends ends;
      wrote = λ clean. below_more (state g.S.Store) anew v p.view q.view stripes from next c.args.conn.now c.loop-reached.conn c.save_part.new.conn before.fresh kept
          (before.wrote (clean_before _ _ _ crash clean))
          (subst (λ (e : ℕ). SavesPart (state g.S.Store) anew p.view q.view stripes from e c.loop-reached.conn c.save_part.new.conn) end (c.in_ok-reached.ensures.wrote clean));
      crash = crash_more g.S.Store anew v p.view q.view stripes from next c.args.conn.now c.loop-reached.conn c.save_part.new.conn before.fresh kept (omega (arith, further.0)) before.crash before.wrote crash;
      at_once = λ one. absurd (let e : false ≡ true = sym one ∙ further.2 in cc);
    }

pub loop-reached-smaller : goal.loop-reached-smaller
loop-reached-smaller g c =
    let stripes = stripes_of c.args.shared.now.map.now in
    let further = subst (IsFurther (may_part c.args.had.now.in_file.stripes stripes) stripes c.loop-reached.from) c.in-Stripe.is c.in_ok-reached.ensures.next in
    omega (arith, further.0, further.1)

-- all is saved
pub returns-in-End-clause-same : goal.returns-in-End-clause-same
returns-in-End-clause-same g c = same_then c.args.self.now.pass c.loop-reached.self.pass c.save_part.new.self.pass c.loop-reached.invariant.same c.save_part.ensures.same

pub returns-in-End-clause-made : goal.returns-in-End-clause-made
returns-in-End-clause-made g c = saves_then c.args.self.now.pass.view c.loop-reached.self.pass.view c.save_part.new.self.pass.view c.loop-reached.invariant.made c.save_part.ensures.made

pub returns-in-End-clause-whole : goal.returns-in-End-clause-whole
returns-in-End-clause-whole g c =
    let q = c.save_part.new.self.pass in
    let stripes = stripes_of c.args.shared.now.map.now in
    whole_more c.loop-reached.self.pass q c.loop-reached.from stripes c.save_part.ensures.same c.save_part.ensures.below c.loop-reached.invariant.whole
    (subst (λ (e : ℕ). (k : ℕ) → c.loop-reached.from ≤ k → k < e → IsWhole q k) (ap (end_of stripes) c.in-End.is) c.in_ok-reached.ensures.whole)

pub returns-in-End-clause-ends : goal.returns-in-End-clause-ends
returns-in-End-clause-ends g c =
    let u = c.loop-reached.self.pass.view in
    let w = c.save_part.new.self.pass.view in
    let stripes = stripes_of c.args.shared.now.map.now in
    let anew = c.args.had.now.takes_anew in
    since_then anew c.args.self.now.pass.view u w c.loop-reached.from stripes c.loop-reached.invariant.fresh c.save_part.ensures.below c.loop-reached.invariant.ends
    (subst (λ (e : ℕ). (k : ℕ) → c.loop-reached.from ≤ k → k < e → IsSavedSince anew u w k) (ap (end_of stripes) c.in-End.is) c.in_ok-reached.ensures.ends)

pub returns-in-End-clause-wrote : goal.returns-in-End-clause-wrote
returns-in-End-clause-wrote g c clean =
    let before = c.loop-reached.invariant in
    let p = c.loop-reached.self.pass in
    let q = c.save_part.new.self.pass in
    let v = c.args.self.now.pass.view in
    let stripes = stripes_of c.args.shared.now.map.now in
    let anew = c.args.had.now.takes_anew in
    let from = c.loop-reached.from in
    let end : end_of stripes c.in_ok-reached.reached ≡ stripes = ap (end_of stripes) c.in-End.is in
    map_saved (state g.S.Store) anew v p.view q.view stripes from c.args.conn.now c.loop-reached.conn c.save_part.new.conn before.fresh c.save_part.ensures.below
    (before.wrote (clean_before _ _ _ c.in_ok-reached.ensures.crash clean))
    (subst (λ (e : ℕ). SavesPart (state g.S.Store) anew p.view q.view stripes from e c.loop-reached.conn c.save_part.new.conn) end (c.in_ok-reached.ensures.wrote clean))

pub returns-in-End-clause-crash : goal.returns-in-End-clause-crash
returns-in-End-clause-crash g c =
    let before = c.loop-reached.invariant in
    let p = c.loop-reached.self.pass in
    let q = c.save_part.new.self.pass in
    let v = c.args.self.now.pass.view in
    let stripes = stripes_of c.args.shared.now.map.now in
    let anew = c.args.had.now.takes_anew in
    let from = c.loop-reached.from in
    let crash = subst (λ (e : ℕ). Survives (state g.S.Store c.loop-reached.conn) (state g.S.Store c.save_part.new.conn) (WouldCommit (state g.S.Store) anew p.view q.view stripes from e c.loop-reached.conn))
    (ap (end_of stripes) c.in-End.is) c.in_ok-reached.ensures.crash in
    crash_last g.S.Store anew v p.view q.view stripes from c.args.conn.now c.loop-reached.conn c.save_part.new.conn before.fresh c.save_part.ensures.below before.within before.crash before.wrote crash

pub returns-in-End-clause-at_once : goal.returns-in-End-clause-at_once
returns-in-End-clause-at_once g c one =
    let q = c.save_part.new.self.pass in
    let stripes = stripes_of c.args.shared.now.map.now in
    let anew = c.args.had.now.takes_anew in
    let crash = subst (λ (e : ℕ). Survives (state g.S.Store c.loop-reached.conn) (state g.S.Store c.save_part.new.conn)
    (WouldCommit (state g.S.Store) anew c.loop-reached.self.pass.view q.view stripes c.loop-reached.from e c.loop-reached.conn)) (ap (end_of stripes) c.in-End.is) c.in_ok-reached.ensures.crash in
    from_start (λ n (p : PassState) (h : Held g.row.S.Denot). Survives (state g.S.Store h) (state g.S.Store c.save_part.new.conn) (WouldCommit (state g.S.Store) anew p.view q.view stripes n stripes h))
    c.loop-reached.from c.args.self.now.pass c.loop-reached.self.pass c.args.conn.now c.loop-reached.conn (c.loop-reached.invariant.at_once one) crash

-- a transaction failed
pub returns-in_err-reached-clause-same : goal.returns-in_err-reached-clause-same
returns-in_err-reached-clause-same g c = same_then c.args.self.now.pass c.loop-reached.self.pass c.save_part.new.self.pass c.loop-reached.invariant.same c.save_part.ensures.same

pub returns-in_err-reached-clause-made : goal.returns-in_err-reached-clause-made
returns-in_err-reached-clause-made g c = saves_then c.args.self.now.pass.view c.loop-reached.self.pass.view c.save_part.new.self.pass.view c.loop-reached.invariant.made c.save_part.ensures.made

pub returns-in_err-reached-clause-crash : goal.returns-in_err-reached-clause-crash
returns-in_err-reached-clause-crash g c =
    let before = c.loop-reached.invariant in
    let p = c.loop-reached.self.pass in
    let q = c.save_part.new.self.pass in
    let v = c.args.self.now.pass.view in
    let stripes = stripes_of c.args.shared.now.map.now in
    let anew = c.args.had.now.takes_anew in
    let from = c.loop-reached.from in
    crash_failed g.S.Store (may_part c.args.had.now.in_file.stripes stripes) anew v p.view q.view stripes from c.args.conn.now c.loop-reached.conn c.save_part.new.conn before.fresh
    c.save_part.ensures.below before.within before.crash before.wrote c.in_err-reached.ensures.crash_err

pub returns-in_err-reached-clause-at_once : goal.returns-in_err-reached-clause-at_once
returns-in_err-reached-clause-at_once g c one =
    let q = c.save_part.new.self.pass in
    let stripes = stripes_of c.args.shared.now.map.now in
    let anew = c.args.had.now.takes_anew in
    let parts = may_part c.args.had.now.in_file.stripes stripes in
    crash_whole g.S.Store parts anew c.args.self.now.pass.view q.view stripes c.args.conn.now c.save_part.new.conn one
    (from_start (λ n (p : PassState) (h : Held g.row.S.Denot). Survives (state g.S.Store h) (state g.S.Store c.save_part.new.conn) (WouldStop (state g.S.Store) parts anew p.view q.view stripes n h))
    c.loop-reached.from c.args.self.now.pass c.loop-reached.self.pass c.args.conn.now c.loop-reached.conn (c.loop-reached.invariant.at_once one) c.in_err-reached.ensures.crash_err)
