-- the words so far are answered, as far as writes didn't fail
use Rattle.std.proofs.Common.{◌++◌, ◌*◌, take, flat_map, count_by, OnOk}
use Rattle.devices.specs.Devices.{CanWrite}
use Rattle.resp.specs.Replies.{array_head}
use Rattle.redis_commands.specs.Commands.{texts}
use Rattle.redis_service.specs.Server.{is_setting, setting_bytes}
use Rattle.redis_service.specs.Sending.{Sends}
use Rattle.redis_service.proofs.server.put_settings.Given as goal

abbrev pub invariant-loop-word : goal.invariant-loop-word
invariant-loop-word g l = record {
  can : OnOk l.sent (CanWrite (g.W.Sink.state l.sink));
  sends : Sends l.sent (g.W.Sink.state l.fn.sink) (g.W.Sink.state l.sink)
      (array_head (2 * count_by is_setting (texts l.words)) ++ flat_map (setting_bytes l.fn.least) (texts (take l.word-index l.words)));
}
