use Rattle.std.proofs.Common.{refl, inl, inr, rules}
use Rattle.redis_service.specs.Lines.{no_memory_line}
use Rattle.redis_service.specs.Texts.{ok_line}
use Rattle.redis_service.proofs.SendLemmas.{sends_of}
use Rattle.redis_service.proofs.connection.rename.Goals as goal

pub returns-else-rename-clause-renames : goal.returns-else-rename-clause-renames
returns-else-rename-clause-renames g c pass =
    (no_memory_line, sends_of c.send-else-rename.result (g.W.Sink.state c.args.sink.now) (g.W.Sink.state c.send-else-rename.new.sink) _ c.send-else-rename.ensures.ok c.send-else-rename.ensures.err, (inr (refl, c.rename.ensures.same (search rules)), refl))

pub returns-then-rename-clause-renames : goal.returns-then-rename-clause-renames
returns-then-rename-clause-renames g c pass =
    (ok_line, sends_of c.send.result (g.W.Sink.state c.args.sink.now) (g.W.Sink.state c.send.new.sink) _ c.send.ensures.ok c.send.ensures.err, (inl (refl, c.rename.ensures.kept (search rules)), refl))
