use Rattle.std.proofs.Common.{◌∙◌, arith, inl, refl}
use Rattle.sqlite.specs.Held.{state}
use Rattle.map_keeper.proofs.WriteLemmas.{clean_before, kept_then, others_none, others_one, others_then, survives_same}
use Rattle.map_keeper.proofs.saving.drop_stripes.Goals as goal

-- nothing yet
pub loop-stripe-init : goal.loop-stripe-init
loop-stripe-init g c = record {
  same_reference = refl;
  wrote = λ clean. others_none (state g.S.Store) c.args.from c.args.save.now.conn.now;
  kept = survives_same (state g.S.Store c.args.save.now.conn.now);
}

-- one step more
pub loop-stripe-preserved : goal.loop-stripe-preserved
loop-stripe-preserved g c = record {
  same_reference = c.start_anew.ensures.same_reference ∙ c.loop-stripe.invariant.same_reference;
  wrote = λ clean. others_then (state g.S.Store) c.args.from c.args.save.now.conn.now c.loop-stripe.save.conn.now c.start_anew.new.save.conn.now
      (c.loop-stripe.invariant.wrote (clean_before _ _ _ c.start_anew.ensures.kept clean))
      (others_one (state g.S.Store) c.args.from _ c.loop-stripe.save.conn.now c.start_anew.new.save.conn.now (inl (c.loop-stripe.stripe, omega arith, refl))
      (c.in_ok-start_anew.ensures.made clean));
  kept = kept_then _ _ _ c.loop-stripe.invariant.kept c.start_anew.ensures.kept;
}

pub returns-in_err-start_anew-clause-kept : goal.returns-in_err-start_anew-clause-kept
returns-in_err-start_anew-clause-kept g c = kept_then _ _ _ c.loop-stripe.invariant.kept c.start_anew.ensures.kept
