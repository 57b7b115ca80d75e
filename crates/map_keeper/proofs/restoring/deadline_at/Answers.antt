use Rattle.std.proofs.Common.{◌≡◌, Some, false, refl, arith}
use Rattle.std.proofs.lemmas.Bool.Decides.{nat_tests}
use Rattle.timed_bins.specs.Deadlines.{is_over}
use Rattle.map_keeper.proofs.restoring.deadline_at.Goals as goal

-- its time is not over
pub returns-in-Until-2-clause-some : goal.returns-in-Until-2-clause-some
returns-in-Until-2-clause-some c value =
    let over : is_over (Some c.in-Until-2.at) c.args.now ≡ false = grind (arith, nat_tests) in
    (Some c.in-Until-2.at, rw (c.in-Until-2.is, over) refl, refl)
