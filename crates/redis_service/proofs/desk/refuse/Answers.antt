use Rattle.std.proofs.Common.{[], refl, sym, subst, ◌≡◌, List, ℕ, Err, ◌∙◌}
use Rattle.resp.specs.Replies.{error_bytes}
use Rattle.redis_commands.specs.Commands.{fault_by}
use Rattle.redis_commands.specs.Texts.{fault_text}
use Rattle.redis_service.specs.Commands.{AnswersRead}
use Rattle.redis_service.proofs.SendLemmas.{takes_none, sends_of}
use Rattle.redis_service.proofs.FaultLemmas.{read_fault}
use Rattle.redis_service.proofs.desk.refuse.Goals as goal

pub returns-in-WebRequest-clause-answers : goal.returns-in-WebRequest-clause-answers
returns-in-WebRequest-clause-answers g c now pass = ([], takes_none (g.W.Sink.state c.args.sink.now), rw c.in-WebRequest.is (refl, c.leave.ensures, refl))

pub returns-in_default-clause-answers : goal.returns-in_default-clause-answers
returns-in_default-clause-answers g c now pass =
    let told : c.as_slice.result.now ≡ fault_text (fault_by c.args.fault.now) = c.as_slice.ensures ∙ c.text.ensures in (
      error_bytes c.as_slice.result.now,
      sends_of c.put_error.result (g.W.Sink.state c.args.sink.now) (g.W.Sink.state c.put_error.new.sink) _ c.put_error.ensures.ok c.put_error.ensures.err,
      subst (λ (t : List ℕ). AnswersRead now c.args.talk.now pass (Err (fault_by c.args.fault.now)) (error_bytes t) c.args.talk.now pass) (sym told)
          (read_fault now c.args.talk.now pass c.args.fault.now c.in_default.not-WebRequest),
    )
