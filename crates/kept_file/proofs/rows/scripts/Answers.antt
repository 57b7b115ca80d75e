use Rattle.std.proofs.Common.{◌≡◌, ◌∙◌, ℕ, [], ◌∷◌, ◌++◌, map, Vec, Global, rules, ap, sym}
use Rattle.sqlite.specs.Order.{Row, column}
use Rattle.sqlite.specs.declared.types.Value.{Value}
use Rattle.sqlite.specs.declared.types.Value.TheVariants.{Blob}
use Rattle.kept_file.proofs.ReadLemmas.{scripts_read}
use Rattle.kept_file.proofs.RowLemmas.{all_taken, map_more_of, map_twice}
use Rattle.kept_file.proofs.rows.scripts.Goals as goal

abbrev text_in : Vec ℕ Global → Value
text_in text = Blob text.items

abbrev text_of : Row → Value
text_of row = column row 1

pub all_rows-requires : goal.all_rows-requires
all_rows-requires g c = scripts_read

pub rows-preserved : goal.rows-preserved
rows-preserved g c =
    let pushed : c.push.new.self.items ≡ c.rows.scripts.items ++ c.in_ok-text.text ∷ [] = search rules in
    ap (map text_in) pushed ∙ map_more_of text_in text_of c.rows.scripts.items c.deref-row-items.result.now c.rows.row-index c.in_ok-text.text c.row-item.result
    c.rows-test.true c.rows.invariant c.row-item.is c.in_ok-text.ensures

pub returns-clause-all : goal.returns-clause-all
returns-clause-all g c clean = record {
  rows = c.in_ok-rows.rows.items;
  shown = c.in_ok-rows.ensures.all clean;
  texts_are = sym (ap (map text_of) (all_taken c.deref-row-items.result.now c.rows.row-index c.rows-test.false ∙ c.deref-row-items.ensures.value)) ∙ (sym c.rows.invariant ∙ map_twice (λ (text : Vec ℕ Global). text.items) Blob c.rows.scripts.items);
}
