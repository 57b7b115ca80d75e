use Rattle.std.proofs.Common.{ap}
use Rattle.std.proofs.lemmas.List.{map-set}
use Rattle.bins.specs.declared.index.Record.{Record}
use Rattle.bins.proofs.RecordLemmas.{map_kept}
use Rattle.bins.proofs.index.Records.set_next.Goals as goal

pub returns-clause-hashes : goal.returns-clause-hashes
returns-clause-hashes c = rw (← c.self.view_is) (map_kept (λ (kept : Record). kept.hash) c.self.inside.list.items c.args.position _ c.index_mut.result.now (ap (λ (kept : Record). kept.hash) c.index_mut.ensures.value))

pub returns-clause-nexts : goal.returns-clause-nexts
returns-clause-nexts c = rw (← c.self.view_is) (map-set (λ (kept : Record). kept.next) c.self.inside.list.items c.args.position _)
