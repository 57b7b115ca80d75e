-- the keys so far are told, as far as writes didn't fail
use Rattle.std.proofs.Common.{◌++◌, ℕ, List, length, take, flat_map, OnOk}
use Rattle.devices.specs.Devices.{SinkState, CanWrite}
use Rattle.resp.specs.Replies.{array_head, value_bytes}
use Rattle.redis_service.specs.Sending.{Sends}
use Rattle.redis_service.proofs.walks.put_keys.Given as goal

abbrev pub invariant-loop-key : goal.invariant-loop-key
invariant-loop-key g l = record {
  can : OnOk l.sent (CanWrite (g.W.Sink.state l.sink));
  told : (before : SinkState) (said : List ℕ) → Sends l.fn.begun before (g.W.Sink.state l.fn.sink) said
      → Sends l.sent before (g.W.Sink.state l.sink) (said ++ (array_head (length l.keys) ++ flat_map value_bytes (take l.key-index l.keys)));
}
