use Rattle.std.proofs.Common.{ap}
use Rattle.bins.specs.Ranks.{Held, table_in}
use Rattle.bins.proofs.CopyLemmas.{distinct_copies}
use Rattle.bins.proofs.RankLemmas.{lent_at}
use Rattle.bins.proofs.hashed_bins.HashedBinsBins.lend_at.Goals as goal

-- the entries of the table, and each has its position for a place
pub returns : goal.returns
returns c = record {
  are = distinct_copies _ c.self.invariant.1 _ (ap (λ (held : Held). table_in held) c.self.view_is) _ c.of_rows.ensures.entries;
  there = rw (← c.self.view_is) (lent_at _ _ _ _ c.self.invariant.2 c.self.invariant.1 c.of_rows.ensures.entries);
}
