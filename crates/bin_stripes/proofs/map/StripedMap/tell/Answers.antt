use Rattle.std.proofs.Common.{ℕ, sym, ap, ◌∙◌, subst}
use Rattle.stripe_rule.specs.declared.view.View.{View}
use Rattle.stripe_rule.specs.Gains.{Hears}
use Rattle.stripe_rule.specs.Steps.{view_of}
use Rattle.stripe_rule.proofs.TellLemmas.{hears}
use Rattle.bin_stripes.specs.declared.ghost_action.GhostAction.{GhostAction}
use Rattle.bin_stripes.proofs.map.StripedMap.tell.Goals as goal

pub returns-clause-told : goal.returns-clause-told
returns-clause-told c = let stripes = c.slot_count-stripes.result in
    subst (λ (z : ℕ × View GhostAction × View GhostAction × View GhostAction). Hears z.0 z.1 z.2 z.3)
    (λ i. ((c.slot_count-stripes.ensures ∙ ap (λ t. t.slots) c.self.view_is) i, ap (λ p. p.view) c.from.view_is i, (sym (ap view_of c.take-seat.ensures.2) ∙ ap (λ p. p.view) c.to.view_is) i, sym (ap view_of c.put.ensures.2) i))
    (hears (view_of c.from.inside.known.views) c.take-seat.result.me.0 c.hear.new.seat.me.0 stripes c.hear.ensures.heard)
