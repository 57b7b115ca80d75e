use Rattle.std.proofs.Common.{[], refl, inl, inr, ap, ◌∙◌}
use Rattle.resp.specs.Replies.{value_bytes}
use Rattle.redis_service.specs.Lines.{no_memory_line}
use Rattle.redis_service.proofs.SendLemmas.{sends_of}
use Rattle.redis_service.proofs.saving.put_info.Goals as goal

pub returns-in-Ok : goal.returns-in-Ok
returns-in-Ok g c =
    let (calls, is) = c.in-Ok.ensures in (
      calls,
      value_bytes c.deref.result.now,
      sends_of c.put_value.result (g.W.Sink.state c.args.sink.now) (g.W.Sink.state c.put_value.new.sink) _ c.put_value.ensures.ok c.put_value.ensures.err,
      inl (ap value_bytes (c.deref.ensures.value ∙ is)),
    )

pub returns-in-Err : goal.returns-in-Err
returns-in-Err g c =
    ([], no_memory_line, sends_of c.send.result (g.W.Sink.state c.args.sink.now) (g.W.Sink.state c.send.new.sink) _ c.send.ensures.ok c.send.ensures.err, inr refl)
