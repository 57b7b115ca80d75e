use Rattle.noted_bins.proofs.HandLemmas.{took_begun}
use Rattle.noted_bins.proofs.noted.take_anew.Goals as goal

-- some entries are left
pub returns-clause-ok : goal.returns-clause-ok
returns-clause-ok g c =
    took_begun _ c.forget.new.self c.begin.new.self c.take_ahead.new.tour (g.T.Bins.order c.args.bins.now) _ _ _ (rw c.begin.ensures.filter (c.in-Ok.ensures)) c.begin.ensures.below c.take_ahead.ensures.handed
