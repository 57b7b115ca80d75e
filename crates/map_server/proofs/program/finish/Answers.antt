use Rattle.std.proofs.Common.{List, ℕ, inr, sym, subst}
use Rattle.map_server.specs.ServerRuns.{IsLastLine}
use Rattle.map_server.proofs.program.finish.Goals as goal

pub returns-in-Err : goal.returns-in-Err
returns-in-Err g c =
    let last = subst (λ (text : List ℕ). IsLastLine c.args.served.now text c.last_line-line.result.1) (sym c.as_slice.ensures.value) c.last_line-line.ensures in
    inr (c.tell_failed_write.ensures, (c.as_slice.result.now, c.last_line-line.result.1, last, c.in-Err.ensures.err))
