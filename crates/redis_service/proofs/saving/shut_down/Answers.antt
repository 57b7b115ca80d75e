use Rattle.std.proofs.Common.{[], refl, inl, inr, rules}
use Rattle.redis_service.specs.Saving.{no_file_line}
use Rattle.redis_service.proofs.SendLemmas.{sends_of, takes_none}
use Rattle.redis_service.proofs.saving.shut_down.Goals as goal

pub returns-then-ends-clause-answers : goal.returns-then-ends-clause-answers
returns-then-ends-clause-answers g c pass = ([], takes_none (g.W.Sink.state c.args.sink.now), inl (refl, c.leave.ensures, refl))

pub returns-clause-answers : goal.returns-clause-answers
returns-clause-answers g c pass =
    (no_file_line, sends_of c.send.result (g.W.Sink.state c.args.sink.now) (g.W.Sink.state c.send.new.sink) _ c.send.ensures.ok c.send.ensures.err, inr (c.ends.ensures (search rules), (refl, refl, refl)))
