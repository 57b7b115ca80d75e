use Rattle.redis_service.proofs.keyed.set.Goals as goal

pub returns-then-act-clause-answers : goal.returns-then-act-clause-answers
returns-then-act-clause-answers g c = rw (c.in-IfEqual.is, c.if-act.true) (rw c.lives.ensures at c.make_change.ensures.changes)
