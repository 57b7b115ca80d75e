-- all tries so far were lost
use Rattle.std.proofs.Common.{◌≡◌, ℕ}
use Rattle.redis_service.specs.Changes.{LosesTries}
use Rattle.redis_service.specs.Planned.{Does}
use Rattle.redis_service.proofs.changes.make_change.Given as goal

abbrev pub invariant-loop : goal.invariant-loop
invariant-loop g l = record {
  map : l.pass.map ≡ l.at.map.now;
  passes : l.pass.view.passes ≡ l.fn.pass.view.passes;
  numbers : l.pass.view.numbers ≡ l.fn.pass.view.numbers;
  key : l.room.key ≡ l.fn.room.key;
  lost : (tries : ℕ) × LosesTries l.at.time l.deadline l.fn.room.key (Does l.change) tries l.fn.pass l.pass;
}
