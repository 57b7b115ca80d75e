use Rattle.std.proofs.Common.{◌≡◌, ◌∷◌, [], Some, refl, sym, ap, ◌∙◌}
use Rattle.atomic_table.specs.Table.{rest}
use Rattle.bin_stripes.proofs.StepLemmas.{found_bins, lets_from}
use Rattle.bin_stripes.proofs.SaveLemmas.{left_same}
use Rattle.bin_stripes.proofs.Making.{nothing_made, nothing_hands_out}
use Rattle.bin_stripes.proofs.occupying.make_occupied.Goals as goal

pub slot_mut-requires : goal.slot_mut-requires
slot_mut-requires g c = let held = c.requires.held in
    (c.requires.table.1, (Some held.bins, held.out ∙ ap (λ l. (c.args.stripe, Some held.bins) ∷ l) (sym (ap rest held.out))))

pub let_go-requires-clause-made : goal.let_go-requires-clause-made
let_go-requires-clause-made g c = let v = c.args.seat.now.me.0 in let there = g.B.Bins.table c.in-Some.bins in
    let found = found_bins g.B.Bins.table g.B.NotedBins.noted c.args.table.now.table_id.slots c.args.stripe c.args.seat.now.me c.in-Some.bins (rest c.args.seat.now.me.1) c.requires.held (c.slot_mut.ensures.value ∙ ap (λ s. (c.args.stripe, s) ∷ rest c.args.seat.now.me.1) c.in-Some.is) in
    (c.in-Some.bins, (rest c.args.seat.now.me.1, (refl, left_same g.B.Bins.table g.B.NotedBins.noted c.args.table.now.table_id.slots c.args.stripe v c.in-Some.bins c.in-Some.bins (λ actions. actions ≡ []) found refl nothing_hands_out (nothing_made c.args.table.now.table_id.slots c.args.stripe v v there there refl refl found.table))))

pub returns-clause-nothing : goal.returns-clause-nothing
returns-clause-nothing g c =
    lets_from c.args.table.now.table_id.slots c.args.stripe _ c.args.seat.now.me _ c.let_go.new.seat.me (rest c.args.seat.now.me.1) (Some c.in-Some.bins) (Some c.in-Some.bins) refl (c.slot_mut.ensures.value ∙ ap (λ s. (c.args.stripe, s) ∷ rest c.args.seat.now.me.1) c.in-Some.is) refl c.let_go.ensures.made
