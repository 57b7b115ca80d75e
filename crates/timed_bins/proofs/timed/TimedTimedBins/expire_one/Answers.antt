use Rattle.std.proofs.Common.{◌∙◌}
use Rattle.timed_bins.proofs.StateLemmas.{takes_over, waits_until, finds_none}
use Rattle.timed_bins.proofs.timed.TimedTimedBins.expire_one.Goals as goal

-- a key is taken whose time is over
pub returns-in-Over-clause-expires : goal.returns-in-Over-clause-expires
returns-in-Over-clause-expires g c =
    let over = rw c.latest_of-self-inside.ensures at c.in-Over.ensures.finds in
    let times = rw c.in-Over.ensures.same at c.take.ensures.times in
    let key = c.new.ensures.key in
    rw (← c.self.view_is)
    (takes_over _ _ c.self.invariant _ _ _ _ _ _ over (rw key at c.take.ensures.table) (rw key at times)
    (c.take.ensures.latest ∙ c.latest_of-self-inside.ensures))

-- none is over
pub returns-in-Later-clause-expires : goal.returns-in-Later-clause-expires
returns-in-Later-clause-expires g c =
    rw (← c.self.view_is) (waits_until _ _ _ _ _ _ _ c.in-Later.ensures.same c.latest_of-self-inside.ensures c.in-Later.ensures.finds)

-- there are no deadlines
pub returns-in-None-clause-expires : goal.returns-in-None-clause-expires
returns-in-None-clause-expires g c =
    rw (← c.self.view_is) (finds_none _ _ _ _ _ _ c.in-None.ensures.same c.latest_of-self-inside.ensures c.in-None.ensures.finds)
