use Rattle.std.proofs.Common.{map}
use Rattle.std.proofs.lemmas.Result.{err_from_is_err_and}
use Rattle.client_protocol.specs.Responses.{response_frame, response_frames}
use Rattle.sessions.specs.Answering.{item_of, end_of}
use Rattle.sessions.proofs.AnsweringLemmas.{takes_then, part_more, part_after, walk_frames}
use Rattle.sessions.proofs.session.send.send_whole.Goals as goal

pub returns-in_err-send_items-clause-err : goal.returns-in_err-send_items-clause-err
returns-in_err-send_items-clause-err g c =
    let p = err_from_is_err_and c.from_residual.result c.from_residual.ensures.1 in
    let items = c.args.reply.now.items in
    rw (p.1, walk_frames items (end_of c.args.reply.now.counts))
    (part_more (g.W.Sink.state c.args.writer.now) (g.W.Sink.state c.send_items.new.writer) (response_frames (map item_of items)) (response_frame (end_of c.args.reply.now.counts)) c.in_err-send_items.ensures.err)

pub returns-in_err-send_one-clause-err : goal.returns-in_err-send_one-clause-err
returns-in_err-send_one-clause-err g c =
    let p = err_from_is_err_and c.from_residual-in_err-send_one.result c.from_residual-in_err-send_one.ensures.1 in
    let items = c.args.reply.now.items in
    rw (p.1, walk_frames items (end_of c.args.reply.now.counts))
    (part_after (g.W.Sink.state c.args.writer.now) (g.W.Sink.state c.send_items.new.writer) (g.W.Sink.state c.send_one.new.writer) (response_frames (map item_of items)) (response_frame (end_of c.args.reply.now.counts)) c.in_ok-send_items.ensures.ok (rw c.end_of.ensures at c.in_err-send_one.ensures.err))

pub returns-clause-ok : goal.returns-clause-ok
returns-clause-ok g c =
    let items = c.args.reply.now.items in
    rw (walk_frames items (end_of c.args.reply.now.counts))
    (takes_then (g.W.Sink.state c.args.writer.now) (g.W.Sink.state c.send_items.new.writer) (g.W.Sink.state c.send_one.new.writer) (response_frames (map item_of items)) (response_frame (end_of c.args.reply.now.counts)) c.in_ok-send_items.ensures.ok (rw c.end_of.ensures at c.in_ok-send_one.ensures.ok))
