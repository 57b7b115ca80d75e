use Rattle.std.proofs.Common.{inl}
use Rattle.redis_service.proofs.locks.reacquire.Goals as goal

pub returns-clause-answers : goal.returns-clause-answers
returns-clause-answers g c =
    inl (
      c.in-Some.ms,
      c.in-Some.ensures.some.0,
      c.in-Some.ensures.some.1,
      c.say_one_if_done.ensures c.args.at.now.time _ c.args.pass.now c.touch.new.pass _ c.touch.new.room.found (rw c.later_by.ensures at c.touch.ensures.made),
    )
