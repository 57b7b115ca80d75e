use Rattle.std.proofs.Common.{ℕ, List, sym, subst, ◌∙◌}
use Rattle.resp.specs.Replies.{error_bytes, value_bytes}
use Rattle.redis_service.specs.Programs.{LoadsText}
use Rattle.redis_service.proofs.SendLemmas.{sends_of}
use Rattle.redis_service.proofs.programs.load.Goals as goal

pub returns-in-Ok : goal.returns-in-Ok
returns-in-Ok g c = record {
  answers = (
    value_bytes c.in-Ok.name,
    sends_of c.put_value.result (g.W.Sink.state c.args.sink.now) (g.W.Sink.state c.put_value.new.sink) _ c.put_value.ensures.ok c.put_value.ensures.err,
    c.in-Ok.ensures.ok,
  );
}

pub returns-in-Err : goal.returns-in-Err
returns-in-Err g c = record {
  answers = (
    error_bytes c.as_slice.result.now,
    sends_of c.put_error.result (g.W.Sink.state c.args.sink.now) (g.W.Sink.state c.put_error.new.sink) _ c.put_error.ensures.ok c.put_error.ensures.err,
    subst (λ (t : List ℕ). LoadsText c.args.text.now (error_bytes t)) (sym (c.as_slice.ensures.value ∙ c.message.ensures)) c.in-Err.ensures.err,
  );
}
