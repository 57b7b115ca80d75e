use Rattle.std.proofs.Common.{rules, w64}
use mir.Val.{SFits}
use Rattle.std.proofs.lemmas.Int.{to_z-of_z}
use Rattle.redis_service.proofs.keyed.answer_key.Goals as goal

pub returns-in-Add-clause-answers : goal.returns-in-Add-clause-answers
returns-in-Add-clause-answers g c =
    let fits : SFits w64 c.in-Add.by = search rules in rw c.in-Add.is (rw (to_z-of_z w64 c.in-Add.by fits) at c.change.ensures.changes)

pub returns-in-SetRange-clause-answers : goal.returns-in-SetRange-clause-answers
returns-in-SetRange-clause-answers g c = rw c.in-SetRange.is c.set_range.ensures.answers
