use Rattle.std.proofs.Common.{◌≡◌, ◌∙◌, ◌==◌, ℕ, ap, subst}
use Rattle.sqlite.specs.Held.{state}
use Rattle.sqlite.specs.State.{HasCleanDisk, IsUnchanged}
use Rattle.sqlite.proofs.Callers.{unchanged_then}
use Rattle.bin_stripes.specs.Passes.{PassState, stripes_of}
use Rattle.map_keeper.specs.Restores.{RestoresEntries}
use Rattle.map_keeper.proofs.RestoreLemmas.{entries_restored, scripts_counted}
use Rattle.map_keeper.proofs.WriteLemmas.{clean_before}
use Rattle.map_keeper.proofs.keeper.Keeper.restore.Goals as goal

-- the file was as before when its scripts were read, and then its entries
pub returns-clause-scripts : goal.returns-clause-scripts
returns-clause-scripts g c clean =
    let start = state g.S.Store c.args.self.now.file.conn in
    let one = state g.S.Store c.restore_programs.new.self.file.conn in
    let two = state g.S.Store c.restore_scripts.new.self.file.conn in
    let three = state g.S.Store c.restore_entries.new.self.file.conn in
    let late : HasCleanDisk two = clean_before two three _ c.in_ok-entries.ensures.kept clean in
    let early : HasCleanDisk one = clean_before one two _ c.in_ok-scripts.ensures.kept late in
    scripts_counted start one (c.in_ok-programs.ensures.unchanged early) c.in_ok-scripts.scripts (c.in_ok-scripts.ensures.scripts late)

pub returns-clause-entries : goal.returns-clause-entries
returns-clause-entries g c clean =
    let start = state g.S.Store c.args.self.now.file.conn in
    let one = state g.S.Store c.restore_programs.new.self.file.conn in
    let two = state g.S.Store c.restore_scripts.new.self.file.conn in
    let three = state g.S.Store c.restore_entries.new.self.file.conn in
    let late : HasCleanDisk two = clean_before two three _ c.in_ok-entries.ensures.kept clean in
    let early : HasCleanDisk one = clean_before one two _ c.in_ok-scripts.ensures.kept late in
    let same : IsUnchanged start two = unchanged_then start one two (c.in_ok-programs.ensures.unchanged early) (c.in_ok-scripts.ensures.unchanged late) in
    let pass : c.restore_scripts.new.self.taker.pass ≡ c.args.self.now.taker.pass =
    ap (λ t. t.pass) c.restore_scripts.ensures.taker ∙ ap (λ t. t.pass) c.restore_programs.ensures.taker in
    let wide : c.restore_scripts.new.self.in_file.stripes ≡ c.args.self.now.in_file.stripes = c.restore_scripts.ensures.stripes ∙ c.restore_programs.ensures.stripes in
    let new = c.restore_entries.new.self.taker.pass in
    let stripes = stripes_of c.args.shared.now.map.now in
    let count = c.in_ok-entries.entries in
    entries_restored start two same (c.args.self.now.in_file.stripes == stripes) c.args.now c.args.self.now.taker.pass new count
    (subst (λ (n : ℕ). RestoresEntries two (n == stripes) c.args.now c.args.self.now.taker.pass new count) wide
    (subst (λ (p : PassState). RestoresEntries two (c.restore_scripts.new.self.in_file.stripes == stripes) c.args.now p new count) pass (c.in_ok-entries.ensures.entered clean)))
