use Rattle.bins.proofs.ReplacementLemmas.{replaces_table}
use Rattle.bins.proofs.list_bins.ListBinsBins.replace_each.Goals as goal

-- the keys are unchanged, so they are sorted
pub invariant_of-self : goal.invariant_of-self
invariant_of-self c = (replaces_table _ _ _ _ _ c.self.invariant c.replace_values.ensures.each).0

-- the change of the entries is the change of their table
pub returns : goal.returns
returns c = record {
  each = rw (← c.self.view_is) (replaces_table _ _ _ _ _ c.self.invariant c.replace_values.ensures.each).1;
  bounded = c.replace_values.ensures.bounded;
}
