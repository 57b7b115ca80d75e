use Rattle.std.proofs.Common.{List, arith, length, ap, ◌∙◌}
use Rattle.bins.specs.Table.{Entry}
use Rattle.bins.proofs.CopyLemmas.{sorted_copies, sorted_many}
use Rattle.bins.proofs.list_bins.ListBinsBins.lend.Goals as goal

-- the list's entries, which are the table's
pub returns-clause-are : goal.returns-clause-are
returns-clause-are c = sorted_copies _ c.self.invariant _ c.self.view_is _ (c.of_pairs.ensures.entries ∙ c.deref.ensures.value)

-- the table has as many
pub returns-clause-bounded : goal.returns-clause-bounded
returns-clause-bounded c = omega (arith, sorted_many _ c.self.invariant _ c.self.view_is, c.of_pairs.ensures.few, ap (λ (es : List Entry). length es) (c.of_pairs.ensures.entries ∙ c.deref.ensures.value))
