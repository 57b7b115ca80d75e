use Rattle.std.proofs.Common.{inl}
use Rattle.redis_service.proofs.locks.extend.Goals as goal

pub returns-clause-answers : goal.returns-clause-answers
returns-clause-answers g c =
    inl (
      c.in-Some.ms,
      c.in-Some.ensures.some.0,
      c.in-Some.ensures.some.1,
      c.say_extended.ensures c.args.at.now.time _ c.args.pass.now c.touch.new.pass _ c.touch.new.room.found (rw c.goes_on-change.ensures at c.touch.ensures.made),
    )
