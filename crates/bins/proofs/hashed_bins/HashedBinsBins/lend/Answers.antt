use Rattle.std.proofs.Common.{List, arith, length, ap}
use Rattle.bins.specs.Table.{Entry}
use Rattle.bins.specs.Ranks.{Held, table_in}
use Rattle.bins.proofs.CopyLemmas.{distinct_copies, distinct_many}
use Rattle.bins.proofs.hashed_bins.HashedBinsBins.lend.Goals as goal

-- the entries of the table
pub returns-clause-are : goal.returns-clause-are
returns-clause-are c = distinct_copies _ c.self.invariant.1 _ (ap (λ (held : Held). table_in held) c.self.view_is) _ c.of_rows.ensures.entries

-- the table has as many
pub returns-clause-bounded : goal.returns-clause-bounded
returns-clause-bounded c = omega (arith, distinct_many _ c.self.invariant.1 _ (ap (λ (held : Held). table_in held) c.self.view_is), c.of_rows.ensures.few, ap (λ (es : List Entry). length es) c.of_rows.ensures.entries)
