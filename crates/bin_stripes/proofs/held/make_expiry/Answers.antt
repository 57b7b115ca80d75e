use Rattle.std.proofs.Common.{◌++◌, ◌∷◌, List, Some, refl, sym, ap, ◌∙◌, subst}
use Rattle.atomic_table.specs.Table.{rest}
use Rattle.stripe_rule.specs.Gains.{seen_of}
use Rattle.timed_bins.specs.Deadlines.{TimedTable, timed_table}
use Rattle.bin_stripes.specs.Actions.{Action}
use Rattle.bin_stripes.specs.Histories.{own_events}
use Rattle.bin_stripes.specs.Saves.{LeavesBins}
use Rattle.bin_stripes.specs.Releasing.{Lets}
use Rattle.bin_stripes.specs.Deeds.{ExpiresBy}
use Rattle.bin_stripes.proofs.StepLemmas.{found_is, found_bins, lets_from}
use Rattle.bin_stripes.proofs.SaveLemmas.{left_more, still_covered}
use Rattle.bin_stripes.proofs.TimedMaking.{expiry_made, expiries_hand_out}
use Rattle.bin_stripes.proofs.held.make_expiry.Goals as goal

pub slot_mut-requires : goal.slot_mut-requires
slot_mut-requires g c = let held = c.requires.held in
    (c.requires.table.1, (Some held.bins, held.out ∙ ap (λ l. (c.args.stripe, Some held.bins) ∷ l) (sym (ap rest held.out))))

pub let_go-requires-clause-made : goal.let_go-requires-clause-made
let_go-requires-clause-made g c = let v = c.args.seat.now.me.0 in let n = c.args.table.now.table_id.slots in let k = c.args.stripe in
    let timed_of : g.row.B.Denot → TimedTable = λ b. timed_table (g.B.Bins.table b) (g.B.TimedBins.deadline b) (g.B.TimedBins.latest b) in
    let out = (c.slot_mut.ensures.value ∙ ap (λ s. (k, s) ∷ rest c.args.seat.now.me.1) c.in-Some.is) in
    let found = found_bins g.B.Bins.table g.B.NotedBins.noted n k c.args.seat.now.me c.in-Some.bins (rest c.args.seat.now.me.1) c.requires.held out in (
      c.expire_noted-expiry.new.self,
      (
        rest c.args.seat.now.me.1,
        (
          refl,
          subst (λ (b : g.row.B.Denot × g.row.B.Denot). (actions : List Action) × (ExpiresBy c.args.now c.expire_noted-expiry.result (timed_of b.0) (timed_of b.1) actions × LeavesBins g.B.Bins.table g.B.NotedBins.noted n k (seen_of v k ++ own_events v actions) c.expire_noted-expiry.new.self))
              (λ i. (sym c.of-before.ensures i, sym c.of-after.ensures i))
              (left_more g.B.Bins.table g.B.NotedBins.noted n k v c.in-Some.bins c.expire_noted-expiry.new.self (ExpiresBy c.args.now c.expire_noted-expiry.result (timed_of c.in-Some.bins) (timed_of c.expire_noted-expiry.new.self)) found
              (still_covered (g.B.NotedBins.noted c.in-Some.bins) (g.B.NotedBins.noted c.expire_noted-expiry.new.self) (timed_of c.in-Some.bins) (timed_of c.expire_noted-expiry.new.self) c.expire_noted-expiry.ensures.notes)
              (expiries_hand_out c.args.now c.expire_noted-expiry.result (timed_of c.in-Some.bins) (timed_of c.expire_noted-expiry.new.self))
              (expiry_made n k v (timed_of c.in-Some.bins) (timed_of c.expire_noted-expiry.new.self) c.args.now c.expire_noted-expiry.result found.table c.expire_noted-expiry.ensures.expires)),
        ),
      ),
    )

pub returns-clause-made : goal.returns-clause-made
returns-clause-made g c = let v = c.args.seat.now.me.0 in let n = c.args.table.now.table_id.slots in let k = c.args.stripe in
    let timed_of : g.row.B.Denot → TimedTable = λ b. timed_table (g.B.Bins.table b) (g.B.TimedBins.deadline b) (g.B.TimedBins.latest b) in
    let out = (c.slot_mut.ensures.value ∙ ap (λ s. (k, s) ∷ rest c.args.seat.now.me.1) c.in-Some.is) in
    let found = found_is g.B.Bins.table g.B.NotedBins.noted n k c.args.seat.now.me c.in-Some.bins (rest c.args.seat.now.me.1) c.requires.held out in record {
      before = timed_of c.in-Some.bins;
      after = timed_of c.expire_noted-expiry.new.self;
      found = found;
      lets = subst (λ (b : g.row.B.Denot × g.row.B.Denot). Lets (ExpiresBy c.args.now c.expire_noted-expiry.result (timed_of b.0) (timed_of b.1)) n k c.args.seat.now.me c.let_go.new.seat.me)
          (λ i. (c.of-before.ensures i, c.of-after.ensures i))
          (lets_from n k _ c.args.seat.now.me _ c.let_go.new.seat.me (rest c.args.seat.now.me.1) (Some c.in-Some.bins) (Some c.expire_noted-expiry.new.self) refl out refl c.let_go.ensures.made);
    }
