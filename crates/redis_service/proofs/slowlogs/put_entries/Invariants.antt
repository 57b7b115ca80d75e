-- the commands so far are told, as far as writes didn't fail
use Rattle.std.proofs.Common.{◌++◌, length, take, flat_map, OnOk}
use Rattle.devices.specs.Devices.{CanWrite}
use Rattle.resp.specs.Replies.{array_head}
use Rattle.redis_service.specs.Sending.{Sends}
use Rattle.redis_service.specs.Slowlogs.{entry_bytes}
use Rattle.redis_service.proofs.slowlogs.put_entries.Given as goal

abbrev pub invariant-loop-entry : goal.invariant-loop-entry
invariant-loop-entry g l = record {
  can : OnOk l.sent (CanWrite (g.W.Sink.state l.sink));
  told : Sends l.sent (g.W.Sink.state l.fn.sink) (g.W.Sink.state l.sink) (array_head (length l.entries) ++ flat_map entry_bytes (take l.entry-index l.entries));
}
