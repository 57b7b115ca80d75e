use Rattle.std.proofs.Common.{◌≡◌, ◌++◌, ◌∷◌, [], List, Some, refl, sym, ap, ◌∙◌, subst}
use Rattle.std.specs.FinMap as map
use Rattle.atomic_table.specs.Table.{rest}
use Rattle.stripe_rule.specs.Gains.{seen_of}
use Rattle.bin_stripes.specs.Actions.{Action, scanned}
use Rattle.bin_stripes.specs.Histories.{own_events}
use Rattle.bin_stripes.specs.Saves.{LeavesBins}
use Rattle.bin_stripes.proofs.StepLemmas.{found_is, found_bins, lets_from, lets_as}
use Rattle.bin_stripes.proofs.SaveLemmas.{left_same}
use Rattle.bin_stripes.proofs.Making.{scan_made, scan_hands_out}
use Rattle.bin_stripes.proofs.held.make_visit.Goals as goal

pub slot_mut-requires : goal.slot_mut-requires
slot_mut-requires g c = let held = c.requires.held in
    (c.requires.table.1, (Some held.bins, held.out ∙ ap (λ l. (c.args.stripe, Some held.bins) ∷ l) (sym (ap rest held.out))))

pub let_go-requires-clause-made : goal.let_go-requires-clause-made
let_go-requires-clause-made g c = let v = c.args.seat.now.me.0 in let n = c.args.table.now.table_id.slots in let k = c.args.stripe in let there = g.B.Bins.table c.in-Some.bins in
    let found = found_bins g.B.Bins.table g.B.NotedBins.noted c.args.table.now.table_id.slots c.args.stripe c.args.seat.now.me c.in-Some.bins (rest c.args.seat.now.me.1) c.requires.held (c.slot_mut.ensures.value ∙ ap (λ s. (c.args.stripe, s) ∷ rest c.args.seat.now.me.1) c.in-Some.is) in (
      c.in-Some.bins,
      (
        rest c.args.seat.now.me.1,
        (
          refl,
          subst (λ (b : g.row.B.Denot). (actions : List Action) × ((actions ≡ scanned (map.entries (g.B.Bins.table b)) ∷ []) × LeavesBins g.B.Bins.table g.B.NotedBins.noted n k (seen_of v k ++ own_events v actions) c.in-Some.bins)) (sym c.of-found.ensures)
              (left_same g.B.Bins.table g.B.NotedBins.noted n k v c.in-Some.bins c.in-Some.bins (λ actions. actions ≡ scanned (map.entries there) ∷ []) found refl (scan_hands_out (map.entries there)) (scan_made n k v v there (map.entries there) refl found.table refl)),
        ),
      ),
    )

pub returns-clause-made : goal.returns-clause-made
returns-clause-made g c = let n = c.args.table.now.table_id.slots in let k = c.args.stripe in (
  g.B.Bins.table c.in-Some.bins,
  (
    found_is g.B.Bins.table g.B.NotedBins.noted c.args.table.now.table_id.slots c.args.stripe c.args.seat.now.me c.in-Some.bins (rest c.args.seat.now.me.1) c.requires.held (c.slot_mut.ensures.value ∙ ap (λ s. (c.args.stripe, s) ∷ rest c.args.seat.now.me.1) c.in-Some.is),
    lets_as n k _ _ c.args.seat.now.me c.let_go.new.seat.me (λ actions a. subst (λ (b : g.row.B.Denot). actions ≡ scanned (map.entries (g.B.Bins.table b)) ∷ []) c.of-found.ensures a)
        (lets_from n k _ c.args.seat.now.me _ c.let_go.new.seat.me (rest c.args.seat.now.me.1) (Some c.in-Some.bins) (Some c.in-Some.bins) refl (c.slot_mut.ensures.value ∙ ap (λ s. (c.args.stripe, s) ∷ rest c.args.seat.now.me.1) c.in-Some.is) refl c.let_go.ensures.made),
    c.show.ensures.shown,
    c.show.ensures.bounded,
  ),
)
