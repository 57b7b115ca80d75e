use Rattle.atomic_methods.proofs.WholeLemmas.{AreStripes-empty, whole-empty}
use Rattle.atomic_methods.proofs.striped.Striped.open.Goals as goal

pub invariant_of-result : goal.invariant_of-result
invariant_of-result c =
    AreStripes-empty _ (rw c.in_ok-empty_stripes.ensures.count (c.is_stripe_count.ensures.exact.0 c.if-not-is_stripe_count.false)) c.in_ok-empty_stripes.ensures.empty

pub returns-clause-ok : goal.returns-clause-ok
returns-clause-ok c = whole-empty _ c.in_ok-empty_stripes.ensures.empty
