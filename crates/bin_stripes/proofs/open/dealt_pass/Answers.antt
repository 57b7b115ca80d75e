use Rattle.std.proofs.Common.{◌∷◌, [], List, refl, sym, ap, ◌∙◌, subst}
use Rattle.atomic_table.specs.Seated.{TableId}
use Rattle.stripe_rule.specs.declared.view.View.{View}
use Rattle.bin_stripes.specs.declared.ghost_action.GhostAction.{GhostAction}
use Rattle.bin_stripes.specs.Passes.{IsPass}
use Rattle.bin_stripes.proofs.OpenedLemmas.{new_pass}
use Rattle.bin_stripes.proofs.open.dealt_pass.Goals as goal

pub invariant_of-result : goal.invariant_of-result
invariant_of-result g c = let r = c.requires.new in let e = c.of.ensures in let seat = c.args.seat in
    subst (λ (x : TableId × List (View GhostAction)). IsPass x.0 x.1) (λ i. (sym e.0 i, sym (e.2 ∙ ap (λ m. m.0 ∷ []) r.1.1) i))
    (new_pass seat.table_id.slots r.0 r.1.0 seat.table_id refl)
