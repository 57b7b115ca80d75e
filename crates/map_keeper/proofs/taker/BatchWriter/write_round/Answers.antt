use Rattle.map_keeper.proofs.WriteLemmas.{clean_before, kept_then, on_ok}
use Rattle.map_keeper.proofs.taker.BatchWriter.write_round.Goals as goal

-- what the file had goes first, and then come the rows
pub returns-clause-made : goal.returns-clause-made
returns-clause-made g c clean =
    on_ok c.write_rows.result _ _
    (λ rest. record {
      mid = c.write_start.new.save.conn.now;
      start = c.in_ok-write_start.ensures.made (clean_before _ _ _ c.write_rows.ensures.kept clean);
      rest = rest;
    })
    (c.write_rows.ensures.made clean)

pub returns-clause-kept : goal.returns-clause-kept
returns-clause-kept g c = kept_then _ _ _ c.write_start.ensures.kept c.write_rows.ensures.kept
