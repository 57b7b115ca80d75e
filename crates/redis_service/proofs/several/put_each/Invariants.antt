-- the pairs before this place are set
use Rattle.std.proofs.Common.{◌≡◌, ◌≤◌, ◌-◌, ◌++◌, ℕ, List, length, drop}
use Rattle.atomic_methods.specs.declared.reply.Reply.{Reply}
use Rattle.redis_commands.specs.Commands.{texts}
use Rattle.redis_commands.specs.Limits.{ArePairs}
use Rattle.redis_service.specs.Answers.{Puts, pairs}
use Rattle.redis_service.specs.Calls.{Each}
use Rattle.redis_service.proofs.several.put_each.Given as goal

abbrev pub invariant-loop-next : goal.invariant-loop-next
invariant-loop-next g l = record {
  map : l.pass.map ≡ l.at.map.now;
  passes : l.pass.view.passes ≡ l.fn.pass.view.passes;
  numbers : l.pass.view.numbers ≡ l.fn.pass.view.numbers;
  place : l.next ≤ length l.words;
  within : ArePairs (drop l.next (texts l.words));
  each : (done : List (List ℕ × List ℕ)) × ((replies : List Reply) × Each (Puts l.at.time) l.fn.pass done replies l.pass
      × (pairs (texts l.words) ≡ done ++ pairs (drop l.next (texts l.words))));
}

abbrev pub decreases-loop-next : goal.decreases-loop-next
decreases-loop-next g l = length l.words - l.next
