use Rattle.std.proofs.Common.{◌≤◌, ◌++◌, ◌∷◌, [], List, refl, sym, subst, ap, length, arith}
use Rattle.bins.specs.declared.locations.Location.{Location}
use Rattle.bins.specs.KeptRows.{AreRows}
use Rattle.bins.specs.Rows.{lists_in}
use Rattle.bins.proofs.RowSteps.{pushed_rows}
use Rattle.std.proofs.lemmas.List.{length_push}
use Rattle.bins.proofs.RoomLemmas.{roomy_as}
use Rattle.bins.proofs.raw_rows.RawRows.push_vacant.Goals as goal

pub returns-clause-rows : goal.returns-clause-rows
returns-clause-rows c =
    let raw = c.args.self.now in
    let more : AreRows (raw.locations.items ++ c.new.result ∷ []) (lists_in raw) = rw c.new.ensures (pushed_rows raw.locations.items (lists_in raw) c.requires.rows (omega (arith, c.requires.few, c.requires.room.room.near))) in
    subst (λ (xs : List Location). AreRows xs (lists_in raw)) (sym c.push_reserved.ensures.items) more

pub returns-clause-room : goal.returns-clause-room
returns-clause-room c =
    let raw = c.args.self.now in
    let less : length c.push_reserved.new.self.items ≤ raw.room = omega (arith, ap length c.push_reserved.ensures.items, length_push raw.locations.items c.new.result, c.requires.few) in
    roomy_as raw _ refl refl refl c.push_reserved.ensures.capacity less c.requires.room
