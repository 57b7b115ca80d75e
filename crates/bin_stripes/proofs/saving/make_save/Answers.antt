use Rattle.std.proofs.Common.{◌≡◌, ◌++◌, ◌∷◌, [], List, Some, refl, sym, ap, ◌∙◌, subst}
use Rattle.atomic_table.specs.Table.{rest}
use Rattle.stripe_rule.specs.Gains.{seen_of}
use Rattle.timed_bins.specs.Deadlines.{TimedTable, timed_table}
use Rattle.noted_bins.specs.Rows.{Row}
use Rattle.bin_stripes.specs.Actions.{Action}
use Rattle.bin_stripes.specs.Histories.{own_events}
use Rattle.bin_stripes.specs.Saves.{LeavesBins}
use Rattle.bin_stripes.specs.Deeds.{SavesBy}
use Rattle.bin_stripes.specs.Releasing.{Lets}
use Rattle.bin_stripes.proofs.SaveLemmas.{save_made, left_more, same_covered}
use Rattle.bin_stripes.proofs.Making.{nothing_made, nothing_hands_out}
use Rattle.bin_stripes.proofs.StepLemmas.{found_bins, lets_from}
use Rattle.bin_stripes.proofs.SavingLemmas.{lets_save, lets_all}
use Rattle.bin_stripes.proofs.saving.make_save.Goals as goal

pub slot_mut-requires : goal.slot_mut-requires
slot_mut-requires g c = let held = c.requires.held in
    (c.requires.table.1, (Some held.bins, held.out ∙ ap (λ l. (c.args.stripe, Some held.bins) ∷ l) (sym (ap rest held.out))))

pub let_go-requires-clause-made : goal.let_go-requires-clause-made
let_go-requires-clause-made g c = let v = c.args.seat.now.me.0 in let n = c.args.table.now.table_id.slots in let k = c.args.stripe in
    let timed_of : g.row.B.Denot → TimedTable = λ b. timed_table (g.B.Bins.table b) (g.B.TimedBins.deadline b) (g.B.TimedBins.latest b) in
    let b = c.in-Some.bins in let after = c.take_changes.new.self in let noted = g.B.NotedBins.noted in
    let out = (c.slot_mut.ensures.value ∙ ap (λ s. (k, s) ∷ rest c.args.seat.now.me.1) c.in-Some.is) in
    let found = found_bins g.B.Bins.table noted n k c.args.seat.now.me b (rest c.args.seat.now.me.1) c.requires.held out in
    let took = c.in-Ok.ensures.ok in
    let made = save_made n k v (noted b) (noted after) (timed_of b) (timed_of after) took.0 c.in-Ok.taken found.table found.kept took.1.1 c.args.changes.now c.take_changes.new.changes took.1.0 in (
      after,
      (
        rest c.args.seat.now.me.1,
        (
          refl,
          subst (λ (x : g.row.B.Denot × List Row × g.row.B.Denot). (actions : List Action) × (SavesBy x.1 c.take_changes.new.changes c.in-Ok.taken (noted x.0) (timed_of x.0) (noted x.2) (timed_of x.2) actions × LeavesBins g.B.Bins.table noted n k (seen_of v k ++ own_events v actions) after))
              (λ i. (sym c.of-before.ensures i, sym c.of-rows.ensures i, sym c.of-after.ensures i))
              (made.0, (made.1.0, record { table = made.1.1.0; kept = made.1.1.1 })),
        ),
      ),
    )

pub let_go-requires-in-Err-clause-made : goal.let_go-requires-in-Err-clause-made
let_go-requires-in-Err-clause-made g c = let v = c.args.seat.now.me.0 in let n = c.args.table.now.table_id.slots in let k = c.args.stripe in
    let b = c.in-Some.bins in let after = c.take_changes.new.self in let noted = g.B.NotedBins.noted in let e = c.in-Err.ensures.err in
    let out = (c.slot_mut.ensures.value ∙ ap (λ s. (k, s) ∷ rest c.args.seat.now.me.1) c.in-Some.is) in
    let found = found_bins g.B.Bins.table noted n k c.args.seat.now.me b (rest c.args.seat.now.me.1) c.requires.held out in
    let same : g.B.Bins.table after ≡ g.B.Bins.table b = ap (λ (t : TimedTable). t.table) e.2 in (
      after,
      (
        rest c.args.seat.now.me.1,
        (
          refl,
          left_more g.B.Bins.table noted n k v b after (λ actions. actions ≡ []) found
              (λ kept covers. same_covered (noted b) (noted after) (g.B.Bins.table b) (g.B.Bins.table after) kept e.1 same covers) nothing_hands_out (nothing_made n k v v (g.B.Bins.table b) (g.B.Bins.table after) refl same found.table),
        ),
      ),
    )

pub returns-in-Ok-clause-ok : goal.returns-in-Ok-clause-ok
returns-in-Ok-clause-ok g c = let me = c.args.seat.now.me in let n = c.args.table.now.table_id.slots in let k = c.args.stripe in
    let timed_of : g.row.B.Denot → TimedTable = λ b. timed_table (g.B.Bins.table b) (g.B.TimedBins.deadline b) (g.B.TimedBins.latest b) in
    let b = c.in-Some.bins in let after = c.take_changes.new.self in let noted = g.B.NotedBins.noted in
    let out = (c.slot_mut.ensures.value ∙ ap (λ s. (k, s) ∷ rest c.args.seat.now.me.1) c.in-Some.is) in
    let found = found_bins g.B.Bins.table noted n k me b (rest me.1) c.requires.held out in
    lets_save g.B.Bins.table noted n k me c.let_go.new.seat.me (timed_of b) (timed_of after) b (noted after) c.args.changes.now c.take_changes.new.changes c.in-Ok.taken found refl
    (subst (λ (x : g.row.B.Denot × List Row × g.row.B.Denot). Lets (SavesBy x.1 c.take_changes.new.changes c.in-Ok.taken (noted x.0) (timed_of x.0) (noted x.2) (timed_of x.2)) n k me c.let_go.new.seat.me)
    (λ i. (c.of-before.ensures i, c.of-rows.ensures i, c.of-after.ensures i))
    (lets_from n k _ me _ c.let_go.new.seat.me (rest me.1) (Some b) (Some after) refl out refl c.let_go.ensures.made))

pub returns-in-Ok-clause-all : goal.returns-in-Ok-clause-all
returns-in-Ok-clause-all g c asked = let me = c.args.seat.now.me in let n = c.args.table.now.table_id.slots in let k = c.args.stripe in
    let timed_of : g.row.B.Denot → TimedTable = λ b. timed_table (g.B.Bins.table b) (g.B.TimedBins.deadline b) (g.B.TimedBins.latest b) in
    let b = c.in-Some.bins in let after = c.take_changes.new.self in let noted = g.B.NotedBins.noted in
    let out = (c.slot_mut.ensures.value ∙ ap (λ s. (k, s) ∷ rest c.args.seat.now.me.1) c.in-Some.is) in
    let found = found_bins g.B.Bins.table noted n k me b (rest me.1) c.requires.held out in
    lets_all g.B.Bins.table noted n k c.args.how.most me c.let_go.new.seat.me (timed_of b) (timed_of after) b (noted after) c.args.changes.now c.take_changes.new.changes c.in-Ok.taken found refl (c.in-Ok.ensures.all asked)
    (subst (λ (x : g.row.B.Denot × List Row × g.row.B.Denot). Lets (SavesBy x.1 c.take_changes.new.changes c.in-Ok.taken (noted x.0) (timed_of x.0) (noted x.2) (timed_of x.2)) n k me c.let_go.new.seat.me)
    (λ i. (c.of-before.ensures i, c.of-rows.ensures i, c.of-after.ensures i))
    (lets_from n k _ me _ c.let_go.new.seat.me (rest me.1) (Some b) (Some after) refl out refl c.let_go.ensures.made))
