use Rattle.std.proofs.Common.{◌≡◌, ◌∙◌, ℕ, IsTrue, refl, subst, arith}
use Rattle.sqlite.specs.Held.{state}
use Rattle.map_keeper.specs.Written.{SavesBetween, may_part}
use Rattle.map_keeper.proofs.SaveLemmas.{keeps_then, one_more, same_then, saves_at_first, saves_then}
use Rattle.map_keeper.proofs.WriteLemmas.{between_more, between_none, clean_before, keeps_same, kept_then, since_more, survives_same}
use Rattle.map_keeper.proofs.taker.Taker.save_stripes.Goals as goal

-- no stripe yet
pub loop-stripe-init : goal.loop-stripe-init
loop-stripe-init g c =
    let v = c.args.self.now.pass.view in
    record {
      map = refl;
      same = record { map = refl; passes = refl };
      made = saves_at_first v;
      below = λ j low. keeps_same v j;
      fresh = λ j up. keeps_same v j;
      whole = λ j up low. absurd (omega (arith, up, low));
      ends = λ j up low. absurd (omega (arith, up, low));
      same_reference = refl;
      wrote = λ clean. between_none (state g.S.Store) c.args.had.now.takes_anew v c.args.from c.args.save.now.conn.now;
      kept = survives_same (state g.S.Store c.args.save.now.conn.now);
    }

-- a stripe could not be saved
pub returns-in_err-save_stripe-clause-same : goal.returns-in_err-save_stripe-clause-same
returns-in_err-save_stripe-clause-same g c = same_then c.args.self.now.pass c.loop-stripe.self.pass c.save_stripe.new.self.pass c.loop-stripe.invariant.same c.save_stripe.ensures.same

pub returns-in_err-save_stripe-clause-made : goal.returns-in_err-save_stripe-clause-made
returns-in_err-save_stripe-clause-made g c = saves_then c.args.self.now.pass.view c.loop-stripe.self.pass.view c.save_stripe.new.self.pass.view c.loop-stripe.invariant.made c.save_stripe.ensures.made

pub returns-in_err-save_stripe-clause-below : goal.returns-in_err-save_stripe-clause-below
returns-in_err-save_stripe-clause-below g c j low =
    keeps_then c.args.self.now.pass.view c.loop-stripe.self.pass.view c.save_stripe.new.self.pass.view j (c.loop-stripe.invariant.below j low)
    (c.save_stripe.ensures.elsewhere j (λ e. omega (arith, low, e)))

pub returns-in_err-save_stripe-clause-kept : goal.returns-in_err-save_stripe-clause-kept
returns-in_err-save_stripe-clause-kept g c = kept_then _ _ _ c.loop-stripe.invariant.kept c.save_stripe.ensures.kept

-- the batches are long enough
pub returns-then-is_full-clause-same : goal.returns-then-is_full-clause-same
returns-then-is_full-clause-same g c = same_then c.args.self.now.pass c.loop-stripe.self.pass c.save_stripe.new.self.pass c.loop-stripe.invariant.same c.save_stripe.ensures.same

pub returns-then-is_full-clause-made : goal.returns-then-is_full-clause-made
returns-then-is_full-clause-made g c = saves_then c.args.self.now.pass.view c.loop-stripe.self.pass.view c.save_stripe.new.self.pass.view c.loop-stripe.invariant.made c.save_stripe.ensures.made

pub returns-then-is_full-clause-below : goal.returns-then-is_full-clause-below
returns-then-is_full-clause-below g c j low =
    keeps_then c.args.self.now.pass.view c.loop-stripe.self.pass.view c.save_stripe.new.self.pass.view j (c.loop-stripe.invariant.below j low)
    (c.save_stripe.ensures.elsewhere j (λ e. omega (arith, low, e)))

pub returns-then-is_full-clause-next : goal.returns-then-is_full-clause-next
returns-then-is_full-clause-next g c =
    let parted : IsTrue (may_part c.args.had.now.in_file.stripes c.stripes-stripes.result) = subst IsTrue c.may_part-in_parts.ensures (c.is_full.ensures c.if-is_full.true) in (
      omega arith,
      λ low. (omega arith, subst (λ (n : ℕ). IsTrue (may_part c.args.had.now.in_file.stripes n)) c.stripes-stripes.ensures.value parted),
    )

pub returns-then-is_full-clause-above : goal.returns-then-is_full-clause-above
returns-then-is_full-clause-above g c j up =
    keeps_then c.args.self.now.pass.view c.loop-stripe.self.pass.view c.save_stripe.new.self.pass.view j (c.loop-stripe.invariant.fresh j (omega (arith, up)))
    (c.save_stripe.ensures.elsewhere j (λ e. omega (arith, up, e)))

pub returns-then-is_full-clause-whole : goal.returns-then-is_full-clause-whole
returns-then-is_full-clause-whole g c =
    one_more c.loop-stripe.self.pass c.save_stripe.new.self.pass c.args.from c.loop-stripe.stripe c.save_stripe.ensures.same c.save_stripe.ensures.elsewhere c.loop-stripe.invariant.whole
    c.in_ok-save_stripe.ensures.whole

pub returns-then-is_full-clause-ends : goal.returns-then-is_full-clause-ends
returns-then-is_full-clause-ends g c =
    since_more c.args.had.now.takes_anew c.args.self.now.pass.view c.loop-stripe.self.pass.view c.save_stripe.new.self.pass.view c.args.from c.loop-stripe.stripe
    (c.loop-stripe.invariant.fresh c.loop-stripe.stripe (omega arith)) c.save_stripe.ensures.elsewhere c.loop-stripe.invariant.ends c.in_ok-save_stripe.ensures.ends

pub returns-then-is_full-clause-wrote : goal.returns-then-is_full-clause-wrote
returns-then-is_full-clause-wrote g c clean =
    between_more (state g.S.Store) c.args.had.now.takes_anew c.args.self.now.pass.view c.loop-stripe.self.pass.view c.save_stripe.new.self.pass.view c.args.from c.loop-stripe.stripe
    c.args.save.now.conn.now c.loop-stripe.save.conn.now c.save_stripe.new.save.conn.now (c.loop-stripe.invariant.wrote (clean_before _ _ _ c.save_stripe.ensures.kept clean))
    (c.loop-stripe.invariant.fresh c.loop-stripe.stripe (omega arith)) c.save_stripe.ensures.elsewhere (c.in_ok-save_stripe.ensures.wrote clean)

pub returns-then-is_full-clause-kept : goal.returns-then-is_full-clause-kept
returns-then-is_full-clause-kept g c = kept_then _ _ _ c.loop-stripe.invariant.kept c.save_stripe.ensures.kept

-- no stripe is left
pub returns-clause-next : goal.returns-clause-next
returns-clause-next g c = (omega (arith, c.stripes-stripes.ensures.value), λ low. absurd (omega (arith, low, c.stripes-stripes.ensures.value)))

pub returns-clause-above : goal.returns-clause-above
returns-clause-above g c j up =
    let all : c.loop-stripe.stripe ≡ c.stripes-stripes.result = omega arith in
    c.loop-stripe.invariant.fresh j (omega (arith, up, all))

pub returns-clause-whole : goal.returns-clause-whole
returns-clause-whole g c k up low =
    let all : c.loop-stripe.stripe ≡ c.stripes-stripes.result = omega arith in
    c.loop-stripe.invariant.whole k up (omega (arith, low, all))

pub returns-clause-ends : goal.returns-clause-ends
returns-clause-ends g c k up low =
    let all : c.loop-stripe.stripe ≡ c.stripes-stripes.result = omega arith in
    c.loop-stripe.invariant.ends k up (omega (arith, low, all))

pub returns-clause-wrote : goal.returns-clause-wrote
returns-clause-wrote g c clean =
    let all : c.loop-stripe.stripe ≡ c.stripes-stripes.result = omega arith in
    subst (λ (n : ℕ). SavesBetween (state g.S.Store) c.args.had.now.takes_anew c.args.self.now.pass.view c.loop-stripe.self.pass.view c.args.from n c.args.save.now.conn.now c.loop-stripe.save.conn.now) all
    (c.loop-stripe.invariant.wrote clean)

-- one stripe more is whole, and written
pub loop-stripe-preserved : goal.loop-stripe-preserved
loop-stripe-preserved g c =
    let before = c.loop-stripe.invariant in
    let stripe = c.loop-stripe.stripe in
    let v = c.args.self.now.pass.view in
    let u = c.loop-stripe.self.pass.view in
    let w = c.save_stripe.new.self.pass.view in
    let fresh = before.fresh stripe (omega arith) in
    record {
      map = c.save_stripe.ensures.same.map ∙ before.map;
      same = same_then c.args.self.now.pass c.loop-stripe.self.pass c.save_stripe.new.self.pass before.same c.save_stripe.ensures.same;
      made = saves_then v u w before.made c.save_stripe.ensures.made;
      below = λ j low. keeps_then v u w j (before.below j low) (c.save_stripe.ensures.elsewhere j (λ e. omega (arith, low, e)));
      fresh = λ j low. keeps_then v u w j (before.fresh j (omega (arith, low))) (c.save_stripe.ensures.elsewhere j (λ e. omega (arith, low, e)));
      whole = one_more c.loop-stripe.self.pass c.save_stripe.new.self.pass c.args.from stripe c.save_stripe.ensures.same c.save_stripe.ensures.elsewhere before.whole c.in_ok-save_stripe.ensures.whole;
      ends = since_more c.args.had.now.takes_anew v u w c.args.from stripe fresh c.save_stripe.ensures.elsewhere before.ends c.in_ok-save_stripe.ensures.ends;
      same_reference = c.save_stripe.ensures.same_reference ∙ before.same_reference;
      wrote = λ clean. between_more (state g.S.Store) c.args.had.now.takes_anew v u w c.args.from stripe c.args.save.now.conn.now c.loop-stripe.save.conn.now c.save_stripe.new.save.conn.now
          (before.wrote (clean_before _ _ _ c.save_stripe.ensures.kept clean)) fresh c.save_stripe.ensures.elsewhere (c.in_ok-save_stripe.ensures.wrote clean);
      kept = kept_then _ _ _ before.kept c.save_stripe.ensures.kept;
    }
