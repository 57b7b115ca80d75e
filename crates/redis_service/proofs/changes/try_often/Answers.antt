use Rattle.std.proofs.Common.{rules}
use Rattle.redis_service.specs.Planned.{Does}
use Rattle.redis_service.proofs.ChangeLemmas.{ends_after, loses_more}
use Rattle.redis_service.proofs.changes.try_often.Goals as goal

pub returns-in-Some-clause-tried : goal.returns-in-Some-clause-tried
returns-in-Some-clause-tried g c before tries lost =
    let key = c.args.room.now.key in
    let D = Does c.args.change.now in
    ends_after c.args.at.now.time c.args.deadline key D before c.loop.pass c.try_change.new.pass _ (c.loop.invariant.lost before tries lost) (rw c.loop.invariant.key at c.in-Some.ensures.tried)

pub loop-preserved : goal.loop-preserved
loop-preserved g c = record {
  map = search rules;
  passes = search rules;
  numbers = search rules;
  key = search rules;
  lost = λ before tries lost. loses_more c.args.at.now.time c.args.deadline c.args.room.now.key (Does c.args.change.now) before c.loop.pass c.try_change.new.pass (c.loop.invariant.lost before tries lost) (rw c.loop.invariant.key at c.in_default.ensures.tried);
}
