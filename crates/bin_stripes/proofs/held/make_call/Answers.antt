use Rattle.std.proofs.Common.{◌++◌, ◌∷◌, List, Option, Some, refl, sym, ap, ◌∙◌, subst}
use Rattle.std.specs.Option.{option_copied}
use Rattle.atomic_table.specs.Table.{rest}
use Rattle.stripe_rule.specs.Gains.{seen_of}
use Rattle.timed_bins.specs.Deadlines.{TimedTable, timed_table}
use Rattle.timed_bins.specs.declared.timing.Timing.{Timing}
use Rattle.bin_stripes.specs.Actions.{Action}
use Rattle.bin_stripes.specs.Histories.{own_events}
use Rattle.bin_stripes.specs.Releasing.{Lets}
use Rattle.bin_stripes.specs.Saves.{LeavesBins}
use Rattle.bin_stripes.specs.Deeds.{CallsBy, RefusesBy}
use Rattle.bin_stripes.proofs.SaveLemmas.{left_more, still_covered}
use Rattle.bin_stripes.proofs.StepLemmas.{found_bins, found_is, lets_from}
use Rattle.bin_stripes.proofs.TimedMaking.{call_made_at, refusal_made, calls_hand_out, refusals_hand_out}
use Rattle.bin_stripes.proofs.held.make_call.Goals as goal

pub slot_mut-requires : goal.slot_mut-requires
slot_mut-requires g c = let held = c.requires.held in
    (c.requires.table.1, (Some held.bins, held.out ∙ ap (λ l. (c.args.stripe, Some held.bins) ∷ l) (sym (ap rest held.out))))

pub let_go-requires-clause-made : goal.let_go-requires-clause-made
let_go-requires-clause-made g c = let v = c.args.seat.now.me.0 in let n = c.args.table.now.table_id.slots in let k = c.args.stripe in
    let timed_of : g.row.B.Denot → TimedTable = λ b. timed_table (g.B.Bins.table b) (g.B.TimedBins.deadline b) (g.B.TimedBins.latest b) in
    let timing : Option Timing = option_copied c.args.at.timing in let invocation = c.args.at.call.now in
    let b = c.in-Some.bins in let after = c.call_noted.new.self in
    let out = (c.slot_mut.ensures.value ∙ ap (λ s. (k, s) ∷ rest c.args.seat.now.me.1) c.in-Some.is) in
    let found = found_bins g.B.Bins.table g.B.NotedBins.noted n k c.args.seat.now.me b (rest c.args.seat.now.me.1) c.requires.held out in (
      after,
      (
        rest c.args.seat.now.me.1,
        (
          refl,
          subst (λ (x : g.row.B.Denot × g.row.B.Denot). (actions : List Action) × (CallsBy timing invocation c.in-Ok.timed c.call_noted.new.bytes (timed_of x.0) (timed_of x.1) actions × LeavesBins g.B.Bins.table g.B.NotedBins.noted n k (seen_of v k ++ own_events v actions) after))
              (λ i. (sym c.of-before.ensures i, sym c.of-after.ensures i))
              (left_more g.B.Bins.table g.B.NotedBins.noted n k v b after (CallsBy timing invocation c.in-Ok.timed c.call_noted.new.bytes (timed_of b) (timed_of after)) found
              (still_covered (g.B.NotedBins.noted b) (g.B.NotedBins.noted after) (timed_of b) (timed_of after) c.call_noted.ensures.notes)
              (calls_hand_out timing invocation c.in-Ok.timed c.call_noted.new.bytes (timed_of b) (timed_of after))
              (call_made_at n k v timing (timed_of b) (timed_of after) invocation c.in-Ok.timed c.call_noted.new.bytes found.table c.requires.key c.in-Ok.ensures.ok)),
        ),
      ),
    )

pub let_go-requires-in-Err-clause-made : goal.let_go-requires-in-Err-clause-made
let_go-requires-in-Err-clause-made g c = let v = c.args.seat.now.me.0 in let n = c.args.table.now.table_id.slots in let k = c.args.stripe in
    let timed_of : g.row.B.Denot → TimedTable = λ b. timed_table (g.B.Bins.table b) (g.B.TimedBins.deadline b) (g.B.TimedBins.latest b) in
    let timing : Option Timing = option_copied c.args.at.timing in let invocation = c.args.at.call.now in
    let b = c.in-Some.bins in let after = c.call_noted.new.self in
    let out = (c.slot_mut.ensures.value ∙ ap (λ s. (k, s) ∷ rest c.args.seat.now.me.1) c.in-Some.is) in
    let found = found_bins g.B.Bins.table g.B.NotedBins.noted n k c.args.seat.now.me b (rest c.args.seat.now.me.1) c.requires.held out in (
      after,
      (
        rest c.args.seat.now.me.1,
        (
          refl,
          subst (λ (x : g.row.B.Denot × g.row.B.Denot). (actions : List Action) × (RefusesBy timing invocation (timed_of x.0) (timed_of x.1) actions × LeavesBins g.B.Bins.table g.B.NotedBins.noted n k (seen_of v k ++ own_events v actions) after))
              (λ i. (sym c.of-before.ensures i, sym c.of-after-in-Err.ensures i))
              (left_more g.B.Bins.table g.B.NotedBins.noted n k v b after (RefusesBy timing invocation (timed_of b) (timed_of after)) found
              (still_covered (g.B.NotedBins.noted b) (g.B.NotedBins.noted after) (timed_of b) (timed_of after) c.call_noted.ensures.notes)
              (refusals_hand_out timing invocation (timed_of b) (timed_of after))
              (refusal_made n k v timing (timed_of b) (timed_of after) invocation found.table c.requires.key c.in-Err.ensures.err)),
        ),
      ),
    )

pub returns-in-Ok-clause-ok : goal.returns-in-Ok-clause-ok
returns-in-Ok-clause-ok g c = let v = c.args.seat.now.me.0 in let n = c.args.table.now.table_id.slots in let k = c.args.stripe in
    let timed_of : g.row.B.Denot → TimedTable = λ b. timed_table (g.B.Bins.table b) (g.B.TimedBins.deadline b) (g.B.TimedBins.latest b) in
    let timing : Option Timing = option_copied c.args.at.timing in
    let out = (c.slot_mut.ensures.value ∙ ap (λ s. (k, s) ∷ rest c.args.seat.now.me.1) c.in-Some.is) in
    let found = found_is g.B.Bins.table g.B.NotedBins.noted n k c.args.seat.now.me c.in-Some.bins (rest c.args.seat.now.me.1) c.requires.held out in record {
      before = timed_of c.in-Some.bins;
      after = timed_of c.call_noted.new.self;
      found = found;
      lets = subst (λ (b : g.row.B.Denot × g.row.B.Denot). Lets (CallsBy timing c.args.at.call.now c.in-Ok.timed c.call_noted.new.bytes (timed_of b.0) (timed_of b.1)) n k c.args.seat.now.me c.let_go.new.seat.me)
          (λ i. (c.of-before.ensures i, c.of-after.ensures i))
          (lets_from n k _ c.args.seat.now.me _ c.let_go.new.seat.me (rest c.args.seat.now.me.1) (Some c.in-Some.bins) (Some c.call_noted.new.self) refl out refl c.let_go.ensures.made);
    }

pub returns-in-Err-clause-err : goal.returns-in-Err-clause-err
returns-in-Err-clause-err g c = let v = c.args.seat.now.me.0 in let n = c.args.table.now.table_id.slots in let k = c.args.stripe in
    let timed_of : g.row.B.Denot → TimedTable = λ b. timed_table (g.B.Bins.table b) (g.B.TimedBins.deadline b) (g.B.TimedBins.latest b) in
    let timing : Option Timing = option_copied c.args.at.timing in
    let out = (c.slot_mut.ensures.value ∙ ap (λ s. (k, s) ∷ rest c.args.seat.now.me.1) c.in-Some.is) in
    let found = found_is g.B.Bins.table g.B.NotedBins.noted n k c.args.seat.now.me c.in-Some.bins (rest c.args.seat.now.me.1) c.requires.held out in record {
      before = timed_of c.in-Some.bins;
      after = timed_of c.call_noted.new.self;
      found = found;
      lets = subst (λ (b : g.row.B.Denot × g.row.B.Denot). Lets (RefusesBy timing c.args.at.call.now (timed_of b.0) (timed_of b.1)) n k c.args.seat.now.me c.let_go-in-Err.new.seat.me)
          (λ i. (c.of-before.ensures i, c.of-after-in-Err.ensures i))
          (lets_from n k _ c.args.seat.now.me _ c.let_go-in-Err.new.seat.me (rest c.args.seat.now.me.1) (Some c.in-Some.bins) (Some c.call_noted.new.self) refl out refl c.let_go-in-Err.ensures.made);
    }
