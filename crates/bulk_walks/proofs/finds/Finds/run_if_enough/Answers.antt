use Rattle.std.proofs.Common.{◌++◌, List, length, sym, ap, ◌∙◌, arith}
use Rattle.std.proofs.lemmas.List.{append-nil}
use Rattle.bins.specs.Table.{Entry}
use Rattle.bulk_walks.proofs.finds.Finds.run_if_enough.Goals as goal

-- none waits any more
pub returns-clause-runs : goal.returns-clause-runs
returns-clause-runs c =
    let none = c.new.ensures in
    record {
      runs = λ early had.
          let later = early ++ c.lend.result in
          (later, (c.in_ok-add.ensures.gathered early had, ap (λ (es : List Entry). early ++ es) (sym c.lend.ensures) ∙ sym (ap (λ (es : List Entry). later ++ es) none ∙ append-nil later)));
      many = let n = ap (λ (es : List Entry). length es) none in let m = ap (λ (es : List Entry). length es) c.lend.ensures in omega (arith, n, m, c.in_ok-add.ensures.scanned);
    }
