use Rattle.std.proofs.Common.{refl, inr, rules}
use Rattle.redis_service.specs.Lines.{no_memory_line}
use Rattle.redis_service.proofs.SendLemmas.{sends_of}
use Rattle.redis_service.proofs.connection.greet.Goals as goal

pub returns-else-rename-clause-renames : goal.returns-else-rename-clause-renames
returns-else-rename-clause-renames g c pass =
    (no_memory_line, sends_of c.send.result (g.W.Sink.state c.args.sink.now) (g.W.Sink.state c.send.new.sink) _ c.send.ensures.ok c.send.ensures.err, (inr (refl, c.rename.ensures.same (search rules)), refl))
