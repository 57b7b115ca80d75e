use Rattle.std.proofs.Common.{[]}
use Rattle.sqlite.specs.Held.{state}
use Rattle.kept_file.proofs.ReadLemmas.{reads_survive, shown_here, shown_same}
use Rattle.kept_file.proofs.rows.all_rows.Goals as goal

pub returns-in-Ok : goal.returns-in-Ok
returns-in-Ok g c =
    let old = state g.S.Store c.args.conn.now in
    let new = state g.S.Store c.query_all.new.self in
    record {
      all = λ clean. shown_here c.args.sql.now [] old new c.in-Ok.rows.items c.requires (c.in-Ok.ensures.ok clean);
      same = λ clean. shown_same c.args.sql.now [] old new c.in-Ok.rows.items c.requires (c.in-Ok.ensures.ok clean);
      kept = reads_survive c.args.sql.now [] old new c.requires c.in-Ok.ensures.survives;
    }

pub returns-in-Err-clause-kept : goal.returns-in-Err-clause-kept
returns-in-Err-clause-kept g c = reads_survive c.args.sql.now [] (state g.S.Store c.args.conn.now) (state g.S.Store c.query_all.new.self) c.requires c.query_all.ensures.survives
