use Rattle.std.proofs.Common.{inl, inr}
use Rattle.std.specs.Prelude.{codes}
use Rattle.map_server.proofs.ServerRunLemmas.{serving_after}
use Rattle.map_server.proofs.program.serve_ready.Goals as goal

pub returns-in-Err : goal.returns-in-Err
returns-in-Err g c = inl (c.tell_failed_write-status.ensures, c.in-Err.ensures.err)

pub returns : goal.returns
returns g c =
    let served = c.serve_ports-served.result.0 in
    let ends =
    serving_after served (g.W.Sink.state c.args.writer.now) (g.W.Sink.state c.print_at_once.new.writer) (g.W.Sink.state c.finish-status.new.writer) (codes "ready\n") c.finish-status.result
    c.in_default.ensures.ok c.finish-status.ensures in
    inr (served, c.see.ensures, c.serve_ports-served.ensures.served, c.serve_ports-served.ensures.crews, ends)
