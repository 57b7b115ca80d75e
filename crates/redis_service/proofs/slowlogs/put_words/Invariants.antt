-- the words so far are told, as far as writes didn't fail
use Rattle.std.proofs.Common.{◌++◌, ℕ, List, length, take, flat_map, OnOk}
use Rattle.devices.specs.Devices.{SinkState, CanWrite}
use Rattle.resp.specs.Replies.{array_head, value_bytes}
use Rattle.server_state.specs.declared.slowlog.SlowWord.{SlowWord}
use Rattle.redis_service.specs.Sending.{Sends}
use Rattle.redis_service.proofs.slowlogs.put_words.Given as goal

abbrev pub invariant-loop-word : goal.invariant-loop-word
invariant-loop-word g l = record {
  can : OnOk l.sent (CanWrite (g.W.Sink.state l.sink));
  told : (before : SinkState) (said : List ℕ) → Sends l.fn.begun before (g.W.Sink.state l.fn.sink) said
      → Sends l.sent before (g.W.Sink.state l.sink) (said ++ (array_head (length l.words) ++ flat_map (λ (word : SlowWord). value_bytes word.text.items) (take l.word-index l.words)));
}
