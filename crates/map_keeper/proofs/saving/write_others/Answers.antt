use Rattle.std.proofs.Common.{subst, ℕ}
use Rattle.sqlite.specs.Held.{state}
use Rattle.map_keeper.specs.Written.{WritesOthers}
use Rattle.map_keeper.proofs.WriteLemmas.{clean_before, kept_then, others_then}
use Rattle.map_keeper.proofs.saving.write_others.Goals as goal

-- the width, the scripts and then the programs
pub returns-clause-wrote : goal.returns-clause-wrote
returns-clause-wrote g c clean =
    let stripes = c.stripes-stripes.result in
    let scripts = clean_before _ _ _ c.save_programs.ensures.kept clean in
    let width = clean_before _ _ _ c.save_scripts.ensures.kept scripts in
    let first = others_then (state g.S.Store) stripes c.args.save.now.conn.now c.write_width.new.save.conn.now c.save_scripts.new.save.conn.now
    (c.in_ok-write_width.ensures.wrote width) (c.in_ok-scripts.ensures.wrote stripes scripts) in
    subst (λ (n : ℕ). WritesOthers (state g.S.Store) n c.args.save.now.conn.now c.save_programs.new.save.conn.now) c.stripes-stripes.ensures.value
    (others_then (state g.S.Store) stripes c.args.save.now.conn.now c.save_scripts.new.save.conn.now c.save_programs.new.save.conn.now first (c.in_ok-programs.ensures.wrote stripes clean))

pub returns-clause-kept : goal.returns-clause-kept
returns-clause-kept g c = kept_then _ _ _ (kept_then _ _ _ c.write_width.ensures.kept c.save_scripts.ensures.kept) c.save_programs.ensures.kept

pub returns-in_err-scripts-clause-kept : goal.returns-in_err-scripts-clause-kept
returns-in_err-scripts-clause-kept g c = kept_then _ _ _ c.write_width.ensures.kept c.save_scripts.ensures.kept

pub returns-in_err-programs-clause-kept : goal.returns-in_err-programs-clause-kept
returns-in_err-programs-clause-kept g c = kept_then _ _ _ (kept_then _ _ _ c.write_width.ensures.kept c.save_scripts.ensures.kept) c.save_programs.ensures.kept
