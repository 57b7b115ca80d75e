use Rattle.std.proofs.Common.{◌≡◌, ◌∙◌, [], ◌∷◌, ◌++◌, map, rules, ap, subst, sym}
use Rattle.sqlite.specs.Held.{state}
use Rattle.sqlite.specs.State.{Shown}
use Rattle.kept_file.specs.Reading.{row_of_program}
use Rattle.kept_file.specs.declared.rows.TheConstants.{PROGRAMS}
use Rattle.kept_file.proofs.ReadLemmas.{programs_read}
use Rattle.kept_file.proofs.RowLemmas.{map_more, all_taken}
use Rattle.kept_file.proofs.rows.programs.Goals as goal

pub all_rows-requires : goal.all_rows-requires
all_rows-requires g c = programs_read

pub rows-preserved : goal.rows-preserved
rows-preserved g c =
    let pushed : c.push.new.self.items ≡ c.rows.programs.items ++ c.in_ok-program.program ∷ [] = search rules in
    ap (map row_of_program) pushed ∙ map_more row_of_program c.rows.programs.items c.deref-row-items.result.now c.rows.row-index c.in_ok-program.program c.row-item.result
    c.rows-test.true c.rows.invariant c.row-item.is c.in_ok-program.ensures

pub returns-clause-all : goal.returns-clause-all
returns-clause-all g c clean =
    let file = state g.S.Store c.args.conn.now in
    subst (Shown PROGRAMS.now [] file file) (sym (c.rows.invariant ∙ (all_taken c.deref-row-items.result.now c.rows.row-index c.rows-test.false ∙ c.deref-row-items.ensures.value)))
    (c.in_ok-rows.ensures.all clean)
