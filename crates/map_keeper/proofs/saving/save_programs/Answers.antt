use Rattle.std.proofs.Common.{◌∙◌, refl}
use Rattle.sqlite.specs.Held.{state}
use Rattle.map_keeper.proofs.WriteLemmas.{clean_before, kept_then, others_none, others_then, survives_same}
use Rattle.map_keeper.proofs.saving.save_programs.Goals as goal

-- nothing yet
pub loop-number-init : goal.loop-number-init
loop-number-init g c = record {
  same_reference = refl;
  wrote = λ stripes clean. others_none (state g.S.Store) stripes c.args.save.now.conn.now;
  kept = survives_same (state g.S.Store c.args.save.now.conn.now);
}

-- one step more
pub loop-number-preserved : goal.loop-number-preserved
loop-number-preserved g c = record {
  same_reference = c.save_program.ensures.same_reference ∙ c.loop-number.invariant.same_reference;
  wrote = λ stripes clean. others_then (state g.S.Store) stripes c.args.save.now.conn.now c.loop-number.save.conn.now c.save_program.new.save.conn.now
      (c.loop-number.invariant.wrote stripes (clean_before _ _ _ c.save_program.ensures.kept clean))
      (c.in_ok-save_program.ensures.wrote stripes clean);
  kept = kept_then _ _ _ c.loop-number.invariant.kept c.save_program.ensures.kept;
}

pub returns-in_err-save_program-clause-kept : goal.returns-in_err-save_program-clause-kept
returns-in_err-save_program-clause-kept g c = kept_then _ _ _ c.loop-number.invariant.kept c.save_program.ensures.kept
