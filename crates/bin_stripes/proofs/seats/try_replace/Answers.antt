use Rattle.std.proofs.Common.{rules}
use Rattle.bin_stripes.proofs.StepLemmas.{replaces_after}
use Rattle.bin_stripes.proofs.seats.try_replace.Goals as goal

pub returns-clause-ok : goal.returns-clause-ok
returns-clause-ok g c = let n = c.args.table.now.table_id.slots in let k = c.args.stripe in let m = c.make_replacements.ensures.made in
    replaces_after g.B.Bins.table g.B.NotedBins.noted n k c.args.seat.now.me c.try_take_stripe.new.seat.me c.make_replacements.new.seat.me c.args.by.program.now c.args.by.arg.now c.make_replacements.result c.requires.rests (search rules) m.0 m.1.0 m.1.1
