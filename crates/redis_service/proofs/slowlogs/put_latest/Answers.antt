use Rattle.std.proofs.Common.{List, [], sym, subst, inl, inr, refl, length}
use Rattle.redis_service.specs.Lines.{no_memory_line}
use Rattle.server_state.specs.declared.slowlog.SlowEntry.{SlowEntry}
use Rattle.redis_service.specs.Slowlogs.{IsWithin, entries_bytes}
use Rattle.redis_service.proofs.SendLemmas.{sends_of}
use Rattle.redis_service.proofs.SlowLemmas.{none_within}
use Rattle.redis_service.proofs.slowlogs.put_latest.Goals as goal

pub returns-in-Ok : goal.returns-in-Ok
returns-in-Ok g c = (
  entries_bytes c.deref.result.now,
  c.put_entries.ensures,
  (
    c.deref.result.now,
    subst (λ (entries : List SlowEntry). IsWithin c.args.count (length entries)) (sym c.deref.ensures.value) c.in-Ok.ensures,
    inl refl,
  ),
)

pub returns-in-Err : goal.returns-in-Err
returns-in-Err g c = (
  no_memory_line,
  sends_of c.send.result (g.W.Sink.state c.args.sink.now) (g.W.Sink.state c.send.new.sink) _ c.send.ensures.ok c.send.ensures.err,
  ([], none_within c.args.count, inr refl),
)
