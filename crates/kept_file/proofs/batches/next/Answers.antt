use Rattle.std.proofs.Common.{None, rules}
use Rattle.sqlite.specs.Given.{Advances}
use Rattle.sqlite.specs.Held.{state}
use Rattle.kept_file.specs.Reading.{row_of}
use Rattle.kept_file.proofs.OtherLemmas.{are_batches}
use Rattle.kept_file.proofs.ReadLemmas.{hands_none}
use Rattle.kept_file.proofs.batches.next.Goals as goal

pub returns-in_default-clause-hands : goal.returns-in_default-clause-hands
returns-in_default-clause-hands g c clean =
    let ended : Advances g.S.Store c.args.batches.now.conn.now c.advance.new.self.conn.now None = search rules in
    hands_none g.S.Store c.args.batches.now.conn.now c.advance.new.self.conn.now (row_of c.args.batch.now) ended

pub returns-in_default-clause-all : goal.returns-in_default-clause-all
returns-in_default-clause-all g c clean found start last handed given rises tables =
    let ended : Advances g.S.Store c.args.batches.now.conn.now c.advance.new.self.conn.now None = search rules in
    are_batches (state g.S.Store start) handed last tables
    (hands_none g.S.Store c.args.batches.now.conn.now c.advance.new.self.conn.now (row_of c.args.batch.now) ended start handed given).0 rises
