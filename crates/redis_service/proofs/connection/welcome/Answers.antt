use Rattle.redis_service.proofs.connection.welcome.Goals as goal

pub returns-in-Some-clause-greets : goal.returns-in-Some-clause-greets
returns-in-Some-clause-greets g c pass = let (w, sends, renames) = c.greet.ensures.renames pass in (w, sends, rw c.in-Some.is renames)
