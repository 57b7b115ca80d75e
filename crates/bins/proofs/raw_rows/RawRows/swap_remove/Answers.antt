use Rattle.std.proofs.Common.{◌<◌, [], List, ℕ, length, arith, sym, ap, subst, ◌∙◌}
use Rattle.std.specs.List.{swap_remove}
use Rattle.bins.specs.declared.locations.Location.{Location}
use Rattle.bins.specs.KeptRows.{AreRows, Lists, keys_of, values_of}
use Rattle.bins.specs.Rows.{keys_in, lists_in, values_in}
use Rattle.bins.proofs.RowRemovals.{emptied_first}
use Rattle.bins.proofs.RowSteps.{keys_length, values_length}
use Rattle.bins.proofs.raw_rows.RawRows.swap_remove.Goals as goal

pub returns-clause-rows : goal.returns-clause-rows
returns-clause-rows c =
    let less = c.give_back.new.self in
    let taken = c.take_vacant.new.self in
    subst (λ (ps : List Location). AreRows ps (lists_in less)) (sym c.give_back.ensures.locations)
    (subst (λ (ls : Lists). AreRows taken.locations.items ls) (sym c.give_back.ensures.rows) c.take_vacant.ensures.rows)

-- the strings of the vacated position don't matter
pub returns-clause-keys : goal.returns-clause-keys
returns-clause-keys c =
    let raw = c.args.self.now in
    let range : c.args.position < length (keys_in raw) = omega (arith, c.requires.range, keys_length raw.locations.items (lists_in raw)) in
    (λ i. keys_of (c.give_back.ensures.locations i) (c.give_back.ensures.rows i))
    ∙ c.take_vacant.ensures.keys ∙ ap (λ (xs : List (List ℕ)). swap_remove xs c.args.position []) c.vacate.ensures.keys ∙ emptied_first (keys_in raw) c.args.position [] range

pub returns-clause-values : goal.returns-clause-values
returns-clause-values c =
    let raw = c.args.self.now in
    let range : c.args.position < length (values_in raw) = omega (arith, c.requires.range, values_length raw.locations.items (lists_in raw)) in
    (λ i. values_of (c.give_back.ensures.locations i) (c.give_back.ensures.rows i))
    ∙ c.take_vacant.ensures.values ∙ ap (λ (xs : List (List ℕ)). swap_remove xs c.args.position []) c.vacate.ensures.values ∙ emptied_first (values_in raw) c.args.position [] range
