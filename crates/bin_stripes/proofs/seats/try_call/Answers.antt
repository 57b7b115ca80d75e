use Rattle.std.proofs.Common.{◌∷◌, [], rules}
use Rattle.atomic_methods.specs.Plans.{reply_by}
use Rattle.bin_stripes.specs.Actions.{called}
use Rattle.bin_stripes.proofs.StepLemmas.{settles_as}
use Rattle.bin_stripes.proofs.PassLemmas.{on_err_of}
use Rattle.bin_stripes.proofs.TimedLemmas.{settles_refused, seat_refused}
use Rattle.bin_stripes.proofs.seats.try_call.Goals as goal

pub returns-clause-ok : goal.returns-clause-ok
returns-clause-ok g c = let n = c.args.table.now.table_id.slots in let k = c.args.stripe in let l = c.in_ok-make_call.ensures.ok in
    settles_as g.B.Bins.table g.B.NotedBins.noted n k c.args.seat.now.me c.try_take_stripe.new.seat.me c.make_call.new.seat.me (called c.args.call.now (reply_by c.in_ok-make_call.field-0.kind c.make_call.new.bytes) ∷ []) c.requires.rests (search rules) l.lets

pub returns-in_err-make_call-clause-err : goal.returns-in_err-make_call-clause-err
returns-in_err-make_call-clause-err g c = let n = c.args.table.now.table_id.slots in let k = c.args.stripe in let l = c.in_err-make_call.ensures.err in
    on_err_of c.from_residual.result (settles_refused g.B.Bins.table g.B.NotedBins.noted n k c.args.seat.now.me c.try_take_stripe.new.seat.me c.make_call.new.seat.me c.args.call.now c.requires.rests (search rules) l)

pub returns-in_err-make_call-clause-memory : goal.returns-in_err-make_call-clause-memory
returns-in_err-make_call-clause-memory g c = let l = c.in_err-make_call.ensures.err in
    λ _. seat_refused g.B.Bins.table g.B.NotedBins.noted c.args.table.now.table_id.slots c.args.stripe c.try_take_stripe.new.seat.me c.make_call.new.seat.me c.args.call.now l
