use Rattle.std.proofs.Common.{arith}
use Rattle.std.proofs.lemmas.Result.{err_from_is_err_and}
use Rattle.sessions.proofs.AnsweringLemmas.{part_at, item_at}
use Rattle.sessions.proofs.SendingLemmas.{stands}
use Rattle.sessions.proofs.session.send.send_items.Goals as goal

pub returns-in_err-send_item-clause-err : goal.returns-in_err-send_item-clause-err
returns-in_err-send_item-clause-err g c =
    let p = err_from_is_err_and c.from_residual.result c.from_residual.ensures.1 in
    let items = c.args.items.now in
    let i = c.loop-position.position in
    let key = c.get.result.0.now in
    let value = c.get.result.1.now in
    rw p.1 (part_at (g.W.Sink.state c.args.writer.now) (g.W.Sink.state c.loop-position.writer) (g.W.Sink.state c.send_item.new.writer) items i (key, value) (omega arith)
    (stands items i key value (omega arith) c.get.ensures.entry) c.loop-position.invariant c.in_err-send_item.ensures.err)

pub loop-position-preserved : goal.loop-position-preserved
loop-position-preserved g c =
    let items = c.args.items.now in
    let i = c.loop-position.position in
    let key = c.get.result.0.now in
    let value = c.get.result.1.now in
    item_at (g.W.Sink.state c.args.writer.now) (g.W.Sink.state c.loop-position.writer) (g.W.Sink.state c.send_item.new.writer) items i (key, value) (omega arith)
    (stands items i key value (omega arith) c.get.ensures.entry) c.loop-position.invariant c.in_ok-send_item.ensures.ok
