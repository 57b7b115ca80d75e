-- the words so far are told of, as far as writes didn't fail
use Rattle.std.proofs.Common.{◌++◌, List, Bool, length, take, flat_map, OnOk}
use Rattle.bin_stripes.specs.Passes.{PassState}
use Rattle.devices.specs.Devices.{CanWrite}
use Rattle.resp.specs.Replies.{array_head}
use Rattle.redis_commands.specs.Commands.{texts}
use Rattle.redis_service.specs.Calls.{Each}
use Rattle.redis_service.specs.Programs.{Looks}
use Rattle.redis_service.specs.Sending.{Sends}
use Rattle.redis_service.specs.Texts.{one_if}
use Rattle.redis_service.proofs.programs.mark_each.Given as goal

abbrev pub invariant-loop-word : goal.invariant-loop-word
invariant-loop-word g l = record {
  can : OnOk l.sent (CanWrite (g.W.Sink.state l.sink));
  each : (pass : PassState) → (marks : List Bool) × Each Looks pass (texts (take l.word-index l.words)) marks pass
      × Sends l.sent (g.W.Sink.state l.fn.sink) (g.W.Sink.state l.sink) (array_head (length l.words) ++ flat_map one_if marks);
}
