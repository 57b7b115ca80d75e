use Rattle.std.proofs.Common.{sym, subst}
use Rattle.bins.specs.Finders.{Finds}
use Rattle.bins.proofs.ReplacementLemmas.{replaces_entries}
use Rattle.bins.proofs.hashed_bins.HashedBinsBins.replace_each.Goals as goal

-- the keys are unchanged
pub invariant_of-self : goal.invariant_of-self
invariant_of-self c =
    let done = replaces_entries _ _ _ _ _ c.self.invariant.1 c.replace_rows.ensures.each in
    (subst (Finds c.self.inside.finder) (sym c.replace_rows.ensures.keys) c.self.invariant.0, done.0, c.replace_rows.ensures.paired)

-- the change of the entries is the change of their table
pub returns-clause-each : goal.returns-clause-each
returns-clause-each c = rw (← c.self.view_is) (replaces_entries _ _ _ _ _ c.self.invariant.1 c.replace_rows.ensures.each).1
