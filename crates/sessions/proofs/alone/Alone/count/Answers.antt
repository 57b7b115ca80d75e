use Rattle.std.proofs.Common.{inl, refl, subst, ℕ}
use Rattle.atomic_methods.specs.Replies.{IsCount}
use Rattle.sessions.proofs.alone.Alone.count.Goals as goal

pub returns : goal.returns
returns c hello bytes =
    inl (c.count_of.result, subst (λ (n : ℕ). IsCount n c.count_of.result) c.count.ensures.value c.count_of.ensures, refl, refl)
