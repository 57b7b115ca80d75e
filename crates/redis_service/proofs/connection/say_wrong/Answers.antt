use Rattle.std.proofs.Common.{subst, ◌≡◌, List, ℕ, ◌∙◌}
use Rattle.resp.specs.Replies.{error_bytes}
use Rattle.redis_commands.specs.Commands.Fault.{WrongPassword}
use Rattle.redis_commands.specs.Texts.{fault_text}
use Rattle.redis_service.specs.Sending.{Sends}
use Rattle.redis_service.proofs.SendLemmas.{sends_of}
use Rattle.redis_service.proofs.connection.say_wrong.Goals as goal

pub returns : goal.returns
returns g c =
    let S = g.W.Sink.state in
    let told : c.as_slice.result.now ≡ fault_text WrongPassword = c.as_slice.ensures ∙ c.text.ensures in
    subst (λ (t : List ℕ). Sends c.put_error.result (S c.args.sink.now) (S c.put_error.new.sink) (error_bytes t)) told
    (sends_of c.put_error.result (S c.args.sink.now) (S c.put_error.new.sink) _ c.put_error.ensures.ok c.put_error.ensures.err)
