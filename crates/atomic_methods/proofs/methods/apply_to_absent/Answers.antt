use Rattle.std.proofs.Common.{None, arith}
use Rattle.bins.proofs.MapEdits.{remove_absent}
use Rattle.atomic_methods.proofs.TableLemmas.{remove-insert}
use Rattle.atomic_methods.proofs.methods.apply_to_absent.Goals as goal

-- the key stays absent
pub returns-else-enters-clause-ok : goal.returns-else-enters-clause-ok
returns-else-enters-clause-ok g c =
    let stays = rw (c.if-enters.false, c.call.ensures.value) at c.new_value-enters.ensures.follows in
    (None, (rw c.requires.absent stays, grind (arith, remove-insert, remove_absent, c.requires.absent)))
