use Rattle.std.proofs.lemmas.Result.{err_from_is_err_and}
use Rattle.sessions.proofs.AnsweringLemmas.{part_more, part_after}
use Rattle.sessions.proofs.session.send.send_parts.Goals as goal

pub returns-in_err-write_all-clause-err : goal.returns-in_err-write_all-clause-err
returns-in_err-write_all-clause-err g c =
    let p = err_from_is_err_and c.from_residual.result c.from_residual.ensures.1 in
    rw p.1 (part_more (g.W.Sink.state c.args.writer.now) (g.W.Sink.state c.write_all.new.writer) c.args.head.now c.args.value.now c.in_err-write_all.ensures.err)

pub returns-in_err-write_all-2-clause-err : goal.returns-in_err-write_all-2-clause-err
returns-in_err-write_all-2-clause-err g c =
    let p = err_from_is_err_and c.from_residual-in_err-write_all-2.result c.from_residual-in_err-write_all-2.ensures.1 in
    rw p.1
    (part_after (g.W.Sink.state c.args.writer.now) (g.W.Sink.state c.write_all.new.writer) (g.W.Sink.state c.write_all-2.new.writer) c.args.head.now c.args.value.now c.in_ok-write_all.ensures.ok c.in_err-write_all-2.ensures.err)
