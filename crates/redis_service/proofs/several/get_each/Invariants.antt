-- the keys so far are answered, as far as writes didn't fail
use Rattle.std.proofs.Common.{◌≡◌, ◌++◌, ℕ, List, Option, length, take, flat_map, OnOk}
use Rattle.devices.specs.Devices.{CanWrite}
use Rattle.resp.specs.Replies.{array_head}
use Rattle.redis_commands.specs.Commands.{texts}
use Rattle.redis_service.specs.Calls.{Each, Finds, bulk}
use Rattle.redis_service.specs.Sending.{Sends}
use Rattle.redis_service.proofs.several.get_each.Given as goal

abbrev pub invariant-loop-key : goal.invariant-loop-key
invariant-loop-key g l = record {
  map : l.pass.map ≡ l.at.map.now;
  passes : l.pass.view.passes ≡ l.fn.pass.view.passes;
  numbers : l.pass.view.numbers ≡ l.fn.pass.view.numbers;
  can : OnOk l.sent (CanWrite (g.W.Sink.state l.sink));
  each : (founds : List (Option (List ℕ))) × Each (Finds l.at.time) l.fn.pass (texts (take l.key-index l.keys)) founds l.pass
      × Sends l.sent (g.W.Sink.state l.fn.sink) (g.W.Sink.state l.sink) (array_head (length l.keys) ++ flat_map bulk founds);
}
