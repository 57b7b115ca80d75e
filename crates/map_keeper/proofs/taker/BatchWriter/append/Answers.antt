use Rattle.sqlite.specs.Held.{state}
use Rattle.map_keeper.proofs.WriteLemmas.{pending_written}
use Rattle.map_keeper.proofs.taker.BatchWriter.append.Goals as goal

-- what was pending is written
pub returns-clause-wrote : goal.returns-clause-wrote
returns-clause-wrote g c clean rows start pending =
    pending_written (state g.S.Store) c.args.stripe rows c.args.self.now.batch.bytes.items start c.args.save.now.conn.now c.append.new.save.conn.now pending (c.in_ok-append.ensures.made clean)
