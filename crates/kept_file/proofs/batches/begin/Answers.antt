use Rattle.std.proofs.Common.{[]}
use Rattle.sqlite.specs.Held.{state}
use Rattle.kept_file.specs.declared.batches.TheConstants.{BATCHES}
use Rattle.kept_file.proofs.ReadLemmas.{batches_read, handed_none, reads_survive}
use Rattle.kept_file.proofs.batches.begin.Goals as goal

pub returns-in-Ok-clause-begun : goal.returns-in-Ok-clause-begun
returns-in-Ok-clause-begun g c clean = handed_none g.S.Store c.args.conn.now c.in-Ok.batches.conn.now (c.in-Ok.ensures.begun clean)

pub returns-in-Ok-clause-kept : goal.returns-in-Ok-clause-kept
returns-in-Ok-clause-kept g c =
    reads_survive BATCHES.now [] (state g.S.Store c.args.conn.now) (state g.S.Store c.in-Ok.batches.conn.now) batches_read c.in-Ok.ensures.survives
