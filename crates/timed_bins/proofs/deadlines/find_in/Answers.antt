use Rattle.std.proofs.Common.{sym, arith}
use Rattle.timed_bins.proofs.ListedLemmas.{waits, shorter, dropped}
use Rattle.timed_bins.proofs.deadlines.find_in.Goals as goal

-- the soonest is not over
pub returns-then-at-now-clause-finds : goal.returns-then-at-now-clause-finds
returns-then-at-now-clause-finds g c =
    waits _ _ _ _ (omega (arith, c.if-at-now.true)) c.in-Some.ensures.soonest c.loop-at.invariant

pub loop-at-smaller : goal.loop-at-smaller
loop-at-smaller g c = shorter _ _ _ (c.drop_first.ensures _ _ c.in-Some.ensures.is.1)

-- what was dropped held no more
pub loop-at-preserved : goal.loop-at-preserved
loop-at-preserved g c =
    let holds = rw (c.deadline_in.ensures, c.new.ensures.key) at c.if-is_over.ensures in
    dropped _ _ _ _ _ _ (c.drop_first.ensures _ _ c.in-Some.ensures.is.1) (omega (arith, c.if-at-now.false)) (sym holds) c.loop-at.invariant
