-- the keys so far
use Rattle.std.proofs.Common.{◌≡◌, ◌≤◌, ℕ, List, Option, take, count_by, is_some}
use Rattle.redis_commands.specs.Commands.{texts}
use Rattle.redis_service.specs.Calls.{Each, Removes}
use Rattle.redis_service.proofs.several.remove_each.Given as goal

abbrev pub invariant-loop-key : goal.invariant-loop-key
invariant-loop-key g l = record {
  map : l.pass.map ≡ l.at.map.now;
  passes : l.pass.view.passes ≡ l.fn.pass.view.passes;
  numbers : l.pass.view.numbers ≡ l.fn.pass.view.numbers;
  each : (founds : List (Option (List ℕ))) × Each (Removes l.at.time) l.fn.pass (texts (take l.key-index l.keys)) founds l.pass × (l.count ≡ count_by is_some founds);
  most : l.count ≤ l.key-index;
}
