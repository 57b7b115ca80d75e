use Rattle.sqlite.specs.Held.{state}
use Rattle.sqlite.specs.Values.{bound}
use Rattle.kept_file.proofs.ReadLemmas.{reads_survive, row_same, no_row_same}
use Rattle.kept_file.proofs.query.number_of.Goals as goal

pub returns-in_err-get-in-Ok-clause-kept : goal.returns-in_err-get-in-Ok-clause-kept
returns-in_err-get-in-Ok-clause-kept g c reads =
    reads_survive c.args.sql.now (bound c.args.params.now) (state g.S.Store c.args.conn.now) (state g.S.Store c.query_row.new.self) reads c.in-Ok.ensures.survives

pub returns-in_ok-get-in-Ok-clause-same : goal.returns-in_ok-get-in-Ok-clause-same
returns-in_ok-get-in-Ok-clause-same g c reads clean =
    row_same c.args.sql.now (bound c.args.params.now) (state g.S.Store c.args.conn.now) (state g.S.Store c.query_row.new.self) c.in-Ok.row reads (c.in-Ok.ensures.row clean)

pub returns-in_ok-get-in-Ok-clause-kept : goal.returns-in_ok-get-in-Ok-clause-kept
returns-in_ok-get-in-Ok-clause-kept g c reads =
    reads_survive c.args.sql.now (bound c.args.params.now) (state g.S.Store c.args.conn.now) (state g.S.Store c.query_row.new.self) reads c.in-Ok.ensures.survives

pub returns-in-Err-QueryReturnedNoRows-clause-same :
    goal.returns-in-Err-QueryReturnedNoRows-clause-same
returns-in-Err-QueryReturnedNoRows-clause-same g c reads clean =
    no_row_same c.args.sql.now (bound c.args.params.now) (state g.S.Store c.args.conn.now) (state g.S.Store c.query_row.new.self) reads
    (rw c.in-Err-QueryReturnedNoRows.field-0-is at c.in-Err-QueryReturnedNoRows.ensures.row clean)

pub returns-in-Err-QueryReturnedNoRows-clause-kept :
    goal.returns-in-Err-QueryReturnedNoRows-clause-kept
returns-in-Err-QueryReturnedNoRows-clause-kept g c reads =
    reads_survive c.args.sql.now (bound c.args.params.now) (state g.S.Store c.args.conn.now) (state g.S.Store c.query_row.new.self) reads c.query_row.ensures.survives

pub returns-in-Err-clause-kept : goal.returns-in-Err-clause-kept
returns-in-Err-clause-kept g c reads =
    reads_survive c.args.sql.now (bound c.args.params.now) (state g.S.Store c.args.conn.now) (state g.S.Store c.query_row.new.self) reads c.query_row.ensures.survives
