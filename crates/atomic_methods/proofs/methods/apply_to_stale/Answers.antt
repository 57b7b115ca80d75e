use Rattle.std.proofs.Common.{Some, None, arith}
use Rattle.std.specs.FinMap as map
use Rattle.bins.proofs.MapEdits.{remove_absent}
use Rattle.atomic_methods.proofs.TableLemmas.{get-removed, insert-remove}
use Rattle.atomic_methods.proofs.methods.apply_to_stale.Goals as goal

-- the call entered a value
pub returns-then-enters-clause-answers : goal.returns-then-enters-clause-answers
returns-then-enters-clause-answers g c =
    let table = g.B.Bins.table c.args.bins.now in let key = c.args.call.now.key in let value = c.new_value-enters.new.bytes in
    let enters = rw (c.if-enters.true, c.call.ensures.value) at c.new_value-enters.ensures.follows in
    (Some value, (rw (get-removed table key) enters, grind (arith, c.in-Ok.ensures.ok, insert-remove table key value)))

-- the call entered nothing
pub returns-clause-answers : goal.returns-clause-answers
returns-clause-answers g c =
    let table = g.B.Bins.table c.args.bins.now in let key = c.args.call.now.key in
    let stays = rw (c.if-enters.false, c.call.ensures.value) at c.new_value-enters.ensures.follows in
    let gone = get-removed table key in
    (None, (rw gone stays, grind (arith, c.discard.ensures.others, remove_absent (map.remove table key) key gone)))
