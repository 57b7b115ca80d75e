use Rattle.std.proofs.Common.{refl}
use Rattle.bins.proofs.MapEdits.{on_err_anyway}
use Rattle.timed_bins.proofs.CallLemmas.{makes_call, refuses_call, refuses_stale, same_timed}
use Rattle.timed_bins.proofs.StaleLemmas.{makes_stale}
use Rattle.timed_bins.proofs.timed.TimedTimedBins.call.Goals as goal

-- the key was taken away, since its time was over, and then the call was made
pub returns-then-is_over-clause-ok : goal.returns-then-is_over-clause-ok
returns-then-is_over-clause-ok g c =
    let looks = rw (← c.self.view_is, c.key.ensures.value, c.if-is_over.true) at c.look_first-is_over.ensures.looks in
    let calls = rw (c.change_at-change.ensures, c.call.ensures.value) at (c.in_ok-made.ensures.ok c.self.inside.latest) in
    rw c.reply.ensures (makes_stale _ _ c.self.invariant _ _ _ _ _ _ _ _ looks refl c.in_ok-made.ensures.before c.in_ok-made.ensures.after calls)

-- nothing was done
pub returns-in_err-made-clause-err : goal.returns-in_err-made-clause-err
returns-in_err-made-clause-err g c =
    let looks = rw (← c.self.view_is, c.key.ensures.value, c.if-is_over.true) at c.look_first-is_over.ensures.looks in
    let asks = rw (c.change_at-change.ensures, c.call.ensures.value) at c.in_err-made.ensures.asks in
    on_err_anyway _ (refuses_stale _ _ _ _ _ looks (same_timed _ _ c.in_err-made.ensures.err.0 c.in_err-made.ensures.err.1 refl) asks)

-- the key's time was not over, and the call was made
pub returns-clause-ok : goal.returns-clause-ok
returns-clause-ok g c =
    let looks = rw (← c.self.view_is, c.key.ensures.value, c.if-is_over.false) at c.look_first-is_over.ensures.looks in
    rw c.reply-2.ensures (makes_call _ _ _ _ _ _ _ looks refl (c.in_ok-made-2.ensures.ok _) c.in_ok-made-2.ensures.before c.in_ok-made-2.ensures.after)

-- nothing was done
pub returns-in_err-made-2-clause-err : goal.returns-in_err-made-2-clause-err
returns-in_err-made-2-clause-err g c =
    let looks = rw (← c.self.view_is, c.key.ensures.value, c.if-is_over.false) at c.look_first-is_over.ensures.looks in
    on_err_anyway _ (refuses_call _ _ _ _ _ looks (same_timed _ _ c.in_err-made-2.ensures.err.0 c.in_err-made-2.ensures.err.1 refl) c.in_err-made-2.ensures.memory)
