use Rattle.std.proofs.Common.{Some}
use Rattle.bins.proofs.FinderLemmas.{bound_by, found_by}
use Rattle.bins.proofs.hashed_bins.found_by.Goals as goal

-- what the tree has at the key
pub value-value-requires : goal.value-value-requires
value-value-requires c = bound_by _ _ _ c.requires.locates (Some c.in_ok-position.position) c.in_ok-position.ensures.value

pub returns-clause-bound : goal.returns-clause-bound
returns-clause-bound c = bound_by _ _ _ c.requires.locates (Some c.in_ok-position.position) c.in_ok-position.ensures.value

pub returns-clause-found : goal.returns-clause-found
returns-clause-found c = found_by _ _ _ c.requires.locates (Some c.in_ok-position.position) c.in_ok-position.ensures.value
