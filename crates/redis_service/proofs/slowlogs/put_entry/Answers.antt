use Rattle.std.proofs.Common.{ℕ, List, ◌++◌, subst}
use Rattle.redis_service.specs.Sending.{Sends}
use Rattle.redis_service.proofs.SlowLemmas.{chained, parts_of}
use Rattle.redis_service.proofs.slowlogs.put_entry.Goals as goal

pub returns-clause-more : goal.returns-clause-more
returns-clause-more g c before said sends =
    let h1 = c.send_after-sent.ensures.more before said sends in
    let h2 = chained _ _ _ said _ _ (c.send_after-sent-2.ensures.more before _ h1) in
    let h3 = chained _ _ _ said _ _ (c.send_after-sent-3.ensures.more before _ h2) in
    let h4 = chained _ _ _ said _ _ (c.send_after-sent-4.ensures.more before _ h3) in
    let h5 = chained _ _ _ said _ _ (c.put_words-sent.ensures.more before _ h4) in
    let h6 = chained _ _ _ said _ _ (c.send_after-sent-5.ensures.more before _ h5) in
    let h7 = chained _ _ _ said _ _ (c.send_after.ensures.more before _ h6) in
    subst (λ (t : List ℕ). Sends c.send_after.result before (g.W.Sink.state c.send_after.new.sink) (said ++ t))
    (parts_of c.args.entry.now _ _ _ c.as_slice.ensures.value c.as_slice-2.ensures.value c.as_slice-3.ensures.value) h7
