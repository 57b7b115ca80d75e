use Rattle.std.proofs.Common.{sym, ◌∙◌}
use Rattle.atomic_methods.proofs.StripeLemmas.{counted, found}
use Rattle.atomic_methods.proofs.call.is_stripe_count.Goals as goal

pub returns-then-stripes-le-MAX_STRIPES : goal.returns-then-stripes-le-MAX_STRIPES
returns-then-stripes-le-MAX_STRIPES c =
    record { exact = (λ h. counted _ c.if-stripes-le-MAX_STRIPES.true (sym c.is_power_of_two.ensures ∙ h), λ is. c.is_power_of_two.ensures ∙ found _ is) }
