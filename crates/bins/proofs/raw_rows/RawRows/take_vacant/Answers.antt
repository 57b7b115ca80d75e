use Rattle.std.proofs.Common.{rules, ◌≡◌, ◌-◌, ◌<◌, ◌≤◌, length, arith, refl, sym, ap, ◌∙◌}
use Rattle.std.specs.List.{swap_remove}
use Rattle.bins.specs.KeptRows.{location_at}
use Rattle.bins.specs.Rows.{IsRoomy, lists_in}
use Rattle.bins.specs.declared.locations.Location.{Location}
use Rattle.bins.proofs.RowLemmas.{read_location}
use Rattle.bins.proofs.RoomLemmas.{roomy_as}
use Rattle.bins.proofs.RowSteps.{Taken, taken_as, taken_in, taken_vacant}
use Rattle.bins.proofs.raw_rows.RawRows.take_vacant.Goals as goal
use Rattle.bins.proofs.raw_rows.RawRows.take_vacant.Goals.{in-In, in_default}

pub move_in-requires-clause-range : goal.move_in-requires-clause-range
move_in-requires-clause-range c =
    let ps = c.args.self.now.locations in
    let at : c.len.result - 1 ≡ length ps.items - 1 = omega (arith, c.len.ensures, ps.ok.0) in
    let named = read_location ps.items (c.len.result - 1) c.index-last.result.now _ (omega (arith, at, c.requires.range)) c.index-last.ensures (sym c.get.ensures.value ∙ c.in-In.is) in
    ((c.requires.rows.matched c.in-In.width).named _ _ named).0

-- the last position takes the gap, and the row that it names, if any, gets the new position
pub returns : goal.returns
returns c =
    let raw = c.args.self.now in
    let ps = raw.locations in
    let p = c.args.position in
    let lists = lists_in raw in
    let at : c.len.result - 1 ≡ length ps.items - 1 = omega (arith, c.len.ensures, ps.ok.0) in
    let before : c.len.result - 1 < length ps.items = omega (arith, at, c.requires.range) in
    let last = λ (x : Location) (is : c.get.result ≡ x). ap (location_at ps.items) (sym at) ∙ read_location ps.items (c.len.result - 1) c.index-last.result.now x before c.index-last.ensures (sym c.get.ensures.value ∙ is) in
    let removed = c.swap_remove.result in
    let after = c.match-get.self in
    let taken : Taken ps.items lists p (swap_remove after.locations.items p removed) (lists_in after) = elim c.match-get.branch [
      | in-In w ↦ rw w.self-is (taken_as ps.items lists p _ _ _ (lists_in w.move_in.new.self) (λ i. swap_remove (w.move_in.ensures.locations i).items p removed) w.move_in.ensures.rows
          (taken_in ps.items lists c.requires.rows p c.requires.vacant c.requires.range removed w.in-In.width w.in-In.at (last _ w.in-In.is)))
      | in_default w ↦ rw w.self-is (taken_vacant ps.items lists c.requires.rows p c.requires.vacant c.requires.range removed (last _ w.in_default.is))
    ] in
    let locations : c.swap_remove.new.self.items ≡ swap_remove after.locations.items p removed = c.swap_remove.ensures.items in
    let moved : Taken ps.items lists p c.swap_remove.new.self.items (lists_in after) = rw locations taken in
    let still : IsRoomy after = elim c.match-get.branch [
      | in-In w ↦ rw w.self-is w.move_in.ensures.room
      | in_default w ↦ rw w.self-is c.requires.room
    ] in
    let less : length c.swap_remove.new.self.items ≤ after.room = omega (arith, c.swap_remove.ensures.len, c.swap_remove.new.self.ok.0, after.locations.ok.0, still.inside) in
    record { rows = moved.rows; keys = moved.keys; values = moved.values; many = search rules; room = roomy_as after _ refl refl refl c.swap_remove.ensures.capacity less still }
