use Rattle.std.proofs.Common.{◌++◌, ◌∷◌, List, Some, refl, sym, ap, ◌∙◌, subst}
use Rattle.std.specs.FinMap as map
use Rattle.atomic_table.specs.Table.{rest}
use Rattle.stripe_rule.specs.Gains.{seen_of}
use Rattle.bin_stripes.specs.Actions.{Action}
use Rattle.timed_bins.specs.Deadlines.{TimedTable, timed_table}
use Rattle.bin_stripes.specs.Histories.{own_events}
use Rattle.bin_stripes.specs.Saves.{LeavesBins}
use Rattle.bin_stripes.specs.Invoked.{AreReplacements}
use Rattle.bin_stripes.proofs.StepLemmas.{found_is, found_bins, lets_from, lets_as}
use Rattle.bin_stripes.proofs.SaveLemmas.{left_more, still_covered}
use Rattle.bin_stripes.proofs.Making.{replacements_made, replacements_hand_out}
use Rattle.bin_stripes.proofs.held.make_replacements.Goals as goal

pub slot_mut-requires : goal.slot_mut-requires
slot_mut-requires g c = let held = c.requires.held in
    (c.requires.table.1, (Some held.bins, held.out ∙ ap (λ l. (c.args.stripe, Some held.bins) ∷ l) (sym (ap rest held.out))))

pub let_go-requires-clause-made : goal.let_go-requires-clause-made
let_go-requires-clause-made g c = let v = c.args.seat.now.me.0 in let n = c.args.table.now.table_id.slots in let k = c.args.stripe in
    let timed_of : g.row.B.Denot → TimedTable = λ b. timed_table (g.B.Bins.table b) (g.B.TimedBins.deadline b) (g.B.TimedBins.latest b) in
    let program = c.args.by.program.now in let arg = c.args.by.arg.now in let counts = c.replace_noted-counts.result in let new = g.B.Bins.table c.replace_noted-counts.new.self in
    let found = found_bins g.B.Bins.table g.B.NotedBins.noted c.args.table.now.table_id.slots c.args.stripe c.args.seat.now.me c.in-Some.bins (rest c.args.seat.now.me.1) c.requires.held (c.slot_mut.ensures.value ∙ ap (λ s. (c.args.stripe, s) ∷ rest c.args.seat.now.me.1) c.in-Some.is) in (
      c.replace_noted-counts.new.self,
      (
        rest c.args.seat.now.me.1,
        (
          refl,
          subst (λ (b : g.row.B.Denot). (actions : List Action) × (AreReplacements program arg (map.entries (g.B.Bins.table b)) actions counts × LeavesBins g.B.Bins.table g.B.NotedBins.noted n k (seen_of v k ++ own_events v actions) c.replace_noted-counts.new.self)) (sym c.of-before.ensures)
              (left_more g.B.Bins.table g.B.NotedBins.noted n k v c.in-Some.bins c.replace_noted-counts.new.self (λ actions. AreReplacements program arg (map.entries (g.B.Bins.table c.in-Some.bins)) actions counts) found
              (still_covered (g.B.NotedBins.noted c.in-Some.bins) (g.B.NotedBins.noted c.replace_noted-counts.new.self) (timed_of c.in-Some.bins) (timed_of c.replace_noted-counts.new.self) c.replace_noted-counts.ensures.notes)
              (λ actions r. replacements_hand_out program arg (map.entries (g.B.Bins.table c.in-Some.bins)) actions counts r)
              (replacements_made n k v v (g.B.Bins.table c.in-Some.bins) new program arg counts refl found.table c.replace_noted-counts.ensures.each)),
        ),
      ),
    )

pub returns-clause-made : goal.returns-clause-made
returns-clause-made g c = let n = c.args.table.now.table_id.slots in let k = c.args.stripe in (
  g.B.Bins.table c.in-Some.bins,
  (
    found_is g.B.Bins.table g.B.NotedBins.noted c.args.table.now.table_id.slots c.args.stripe c.args.seat.now.me c.in-Some.bins (rest c.args.seat.now.me.1) c.requires.held (c.slot_mut.ensures.value ∙ ap (λ s. (c.args.stripe, s) ∷ rest c.args.seat.now.me.1) c.in-Some.is),
    lets_as n k _ _ c.args.seat.now.me c.let_go.new.seat.me
        (λ actions a. subst (λ (b : g.row.B.Denot). AreReplacements c.args.by.program.now c.args.by.arg.now (map.entries (g.B.Bins.table b)) actions c.replace_noted-counts.result) c.of-before.ensures a)
        (lets_from n k _ c.args.seat.now.me _ c.let_go.new.seat.me (rest c.args.seat.now.me.1) (Some c.in-Some.bins) (Some c.replace_noted-counts.new.self) refl (c.slot_mut.ensures.value ∙ ap (λ s. (c.args.stripe, s) ∷ rest c.args.seat.now.me.1) c.in-Some.is) refl c.let_go.ensures.made),
  ),
)
