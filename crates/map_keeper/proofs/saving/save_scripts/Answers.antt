use Rattle.std.proofs.Common.{◌∙◌, inl, inr, refl}
use Rattle.sqlite.specs.Held.{state}
use Rattle.map_keeper.proofs.WriteLemmas.{clean_before, kept_then, others_none, others_one, others_then, survives_same}
use Rattle.map_keeper.proofs.saving.save_scripts.Goals as goal

-- nothing yet
pub loop-text-init : goal.loop-text-init
loop-text-init g c = record {
  same_reference = refl;
  wrote = λ stripes clean. others_none (state g.S.Store) stripes c.args.save.now.conn.now;
  kept = survives_same (state g.S.Store c.args.save.now.conn.now);
}

-- one step more
pub loop-text-preserved : goal.loop-text-preserved
loop-text-preserved g c = record {
  same_reference = c.script.ensures.same_reference ∙ c.loop-text.invariant.same_reference;
  wrote = λ stripes clean. others_then (state g.S.Store) stripes c.args.save.now.conn.now c.loop-text.save.conn.now c.script.new.save.conn.now
      (c.loop-text.invariant.wrote stripes (clean_before _ _ _ c.script.ensures.kept clean))
      (others_one (state g.S.Store) stripes _ c.loop-text.save.conn.now c.script.new.save.conn.now (inr (inr (inl (_, refl))))
      (c.in_ok-script.ensures.made clean));
  kept = kept_then _ _ _ c.loop-text.invariant.kept c.script.ensures.kept;
}

pub returns-in_err-script-clause-kept : goal.returns-in_err-script-clause-kept
returns-in_err-script-clause-kept g c = kept_then _ _ _ c.loop-text.invariant.kept c.script.ensures.kept
