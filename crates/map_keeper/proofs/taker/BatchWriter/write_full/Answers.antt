use Rattle.sqlite.specs.Held.{state}
use Rattle.map_keeper.proofs.WriteLemmas.{survives_same, written_pending}
use Rattle.map_keeper.proofs.taker.BatchWriter.write_full.Goals as goal

-- it is not full
pub returns-then-as_slice-lt-BATCH_BYTES-clause-kept : goal.returns-then-as_slice-lt-BATCH_BYTES-clause-kept
returns-then-as_slice-lt-BATCH_BYTES-clause-kept g c = survives_same _

-- it was full, and is empty
pub returns-clause-wrote : goal.returns-clause-wrote
returns-clause-wrote g c clean rows start pending =
    written_pending (state g.S.Store) c.args.stripe rows c.append.new.self.batch.bytes.items start c.append.new.save.conn.now
    (c.in_ok-append.ensures.wrote clean rows start pending) c.in_ok-append.ensures.empty
