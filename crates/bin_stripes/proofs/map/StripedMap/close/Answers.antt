use Rattle.std.proofs.Common.{◌≡◌, ℕ, sym, ap, ◌∙◌, subst}
use Rattle.atomic_table.specs.Seated.{TableId}
use Rattle.stripe_rule.specs.declared.view.View.{View}
use Rattle.stripe_rule.specs.Steps.{view_of, HasTaken}
use Rattle.bins.proofs.EntryCounts.{weighed_in_table}
use Rattle.atomic_methods.specs.Whole.{all_entries, whole}
use Rattle.atomic_methods.proofs.WholeLemmas.{Distinct-stripes}
use Rattle.atomic_methods.specs.Hashes.{IsStripeCount}
use Rattle.bin_stripes.specs.declared.ghost_action.GhostAction.{GhostAction}
use Rattle.bin_stripes.specs.Histories.{empty, does, Sound}
use Rattle.bin_stripes.specs.Passes.{PassState, stripes_of}
use Rattle.bin_stripes.proofs.PassLemmas.{state}
use Rattle.bin_stripes.proofs.ClosingLemmas.{are_stripes, closes_with}
use Rattle.bin_stripes.proofs.map.StripedMap.close.Goals as goal

-- the entries of all stripes, sorted by key, are those of the map
pub returns : goal.returns
returns g c = let known = c.pass.inside.known in let me = c.take-seat.result.me in let out = c.in_ok-copies.ensures.ok in let w = c.entries_out.new.seat.me.0 in
    let same : known.table_id ≡ c.self.inside.table.shared.table_id = ap (λ (s : PassState). s.map) c.pass.view_is ∙ (c.requires.map ∙ sym c.self.view_is) in
    let n : c.slot_count-stripes.result ≡ stripes_of known.table_id = c.slot_count-stripes.ensures ∙ ap (λ (t : TableId). t.slots) (sym same) in
    let here : HasTaken (does (stripes_of known.table_id)) empty (view_of known.views) (stripes_of known.table_id) out.0 w =
    subst (λ (z : ℕ × View GhostAction). HasTaken (does z.0) empty z.1 z.0 out.0 w) (λ i. (n i, ap view_of (sym c.take-seat.ensures.2) i)) out.1.1.0 in
    let stripes = are_stripes (stripes_of known.table_id) (view_of known.views) w out.0 (subst (λ (t : TableId). IsStripeCount t.slots) (sym same) c.self.invariant.count) here in
    let sorted = c.in_ok-found.ensures.order (whole out.0) (λ weight. out.1.0 weight ∙ sym (weighed_in_table weight (all_entries out.0) (Distinct-stripes out.0 stripes))) in
    record { ok = rw (← c.pass.view_is) (closes_with (state known.table_id known.views) w out.0 _ here (subst (λ n. Sound n w) n out.1.1.1) sorted) }
