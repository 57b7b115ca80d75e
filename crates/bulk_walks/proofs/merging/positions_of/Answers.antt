use Rattle.std.proofs.Common.{◌≡◌, ◌++◌, List, drop, length, map, take, sym, ◌∙◌, subst}
use Rattle.std.proofs.lemmas.List.{take_at}
use Rattle.bins.specs.Merged.{entry_at}
use Rattle.bins.specs.declared.merged_entries.EntryPosition.{EntryPosition}
use Rattle.bulk_walks.specs.Kept.{lists_of_all}
use Rattle.bulk_walks.specs.Merges.{Remains}
use Rattle.bulk_walks.proofs.HalfLemmas.{InOrder, whole_order, places_whole}
use Rattle.bulk_walks.proofs.merging.positions_of.Goals as goal

pub write_positions-requires-clause-order : goal.write_positions-requires-clause-order
write_positions-requires-clause-order g c κs within = subst (λ (rests : List Remains). InOrder rests) (sym c.in_ok-rests.ensures) (whole_order c.args.all.now c.requires.order)

-- the places were written whole
pub returns : goal.returns
returns g c whole order has =
    let ps = c.write_positions.new.places in
    let full : take c.resize.new.self.len (ps ++ drop (length ps) c.resize.new.self.items) ≡ ps = take_at ps (drop (length ps) c.resize.new.self.items) c.resize.new.self.len (c.write_positions.auto.places ∙ c.deref_mut.ensures.len) in
    subst (λ (qs : List EntryPosition). map (entry_at (lists_of_all c.args.all.now)) qs ≡ whole) (sym full)
    (places_whole c.args.all.now c.in_ok-rests.rests.items ps c.in_ok-rests.ensures c.in_ok-write_positions.ensures whole order has)
