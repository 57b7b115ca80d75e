-- a write that fails after some pieces
use Rattle.std.proofs.Common.{◌++◌}
use Rattle.std.proofs.lemmas.Result.{err_from_is_err_and}
use Rattle.resp.proofs.WriteLemmas.{part_more, part_after}
use Rattle.resp.proofs.reply.put_three.Goals as goal

pub returns-in_err-write_all-clause-err : goal.returns-in_err-write_all-clause-err
returns-in_err-write_all-clause-err g c =
    let p = err_from_is_err_and c.from_residual.result c.from_residual.ensures.1 in
    rw p.1 (part_more (g.W.Sink.state c.args.sink.now) (g.W.Sink.state c.write_all.new.writer) c.args.head.now (c.args.body.now ++ c.args.end.now) c.in_err-write_all.ensures.err)

pub returns-in_err-write_all-2-clause-err : goal.returns-in_err-write_all-2-clause-err
returns-in_err-write_all-2-clause-err g c =
    let p = err_from_is_err_and c.from_residual-in_err-write_all-2.result c.from_residual-in_err-write_all-2.ensures.1 in
    rw p.1
    (part_after (g.W.Sink.state c.args.sink.now) (g.W.Sink.state c.write_all.new.writer) (g.W.Sink.state c.write_all-2.new.writer) c.args.head.now (c.args.body.now ++ c.args.end.now) c.in_ok-write_all.ensures.ok
    (part_more (g.W.Sink.state c.write_all.new.writer) (g.W.Sink.state c.write_all-2.new.writer) c.args.body.now c.args.end.now c.in_err-write_all-2.ensures.err))

pub returns-in_err-write_all-3-clause-err : goal.returns-in_err-write_all-3-clause-err
returns-in_err-write_all-3-clause-err g c =
    let p = err_from_is_err_and c.from_residual-in_err-write_all-3.result c.from_residual-in_err-write_all-3.ensures.1 in
    rw p.1
    (part_after (g.W.Sink.state c.args.sink.now) (g.W.Sink.state c.write_all.new.writer) (g.W.Sink.state c.write_all-3.new.writer) c.args.head.now (c.args.body.now ++ c.args.end.now) c.in_ok-write_all.ensures.ok
    (part_after (g.W.Sink.state c.write_all.new.writer) (g.W.Sink.state c.write_all-2.new.writer) (g.W.Sink.state c.write_all-3.new.writer) c.args.body.now c.args.end.now c.in_ok-write_all-2.ensures.ok c.in_err-write_all-3.ensures.err))
