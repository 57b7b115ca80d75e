use Rattle.std.proofs.Common.{◌∙◌}
use Rattle.noted_bins.proofs.HandLemmas.{handed_all, took_first, took_lists, took_part, took_ahead}
use Rattle.noted_bins.proofs.noted.take_some.Goals as goal

-- a tour goes on
pub returns-then-is_on-clause-ok : goal.returns-then-is_on-clause-ok
returns-then-is_on-clause-ok g c = took_ahead c.args.notes.now c.args.tour.now c.take_ahead.new.tour (g.T.Bins.order c.args.bins.now) _ _ _ c.take_ahead.ensures.handed

-- keys are left in the lists
pub returns-then-not-branch-clause-ok : goal.returns-then-not-branch-clause-ok
returns-then-not-branch-clause-ok g c = took_part c.args.notes.now c.take_listed.new.notes c.args.tour.now (g.T.Bins.order c.args.bins.now) _ _ _ c.in_ok-take_listed.ensures.ok

-- .. or none, and the filter is off
pub returns-then-not-is_filtered-clause-ok : goal.returns-then-not-is_filtered-clause-ok
returns-then-not-is_filtered-clause-ok g c =
    took_lists c.args.notes.now c.take_listed.new.notes c.args.tour.now c.end.new.self (g.T.Bins.order c.args.bins.now) _ _ _ c.in_ok-take_listed.ensures.ok (c.in_ok-take_listed.ensures.none c.if-not-branch.false) (c.is_filtered.ensures c.if-not-is_filtered.true)
    (c.is_on.ensures c.if-is_on.false) c.end.ensures

-- a tour begins
pub returns-then-may_follow-clause-ok : goal.returns-then-may_follow-clause-ok
returns-then-may_follow-clause-ok g c =
    took_first c.args.notes.now c.take_listed.new.notes c.take_filter.new.self c.args.tour.now c.begin.new.self c.take_ahead-then-may_follow.new.tour (g.T.Bins.order c.args.bins.now)
    _ _ _ _ c.in_ok-take_listed.ensures.ok c.take_filter.ensures.keys (c.is_on.ensures c.if-is_on.false)
    (c.begin.ensures.filter ∙ c.take_filter.ensures.taken) c.begin.ensures.below c.take_ahead-then-may_follow.ensures.handed

-- none is left in the filter
pub returns-then-take_filtered-clause-ok : goal.returns-then-take_filtered-clause-ok
returns-then-take_filtered-clause-ok g c =
    let handed = handed_all c.args.notes.now c.take_listed.new.notes c.take_filtered.new.notes _ _ _ _ c.in_ok-take_listed.ensures.ok c.take_filtered.ensures.handed c.take_filtered.ensures.all c.take_filtered.ensures.keys in
    took_lists c.args.notes.now c.take_filtered.new.notes c.args.tour.now c.end-then-take_filtered.new.self (g.T.Bins.order c.args.bins.now) _ _ _ handed (c.take_filtered.ensures.keys ∙ c.in_ok-take_listed.ensures.none c.if-not-branch.false) (c.take_filtered.ensures.off c.if-take_filtered.true)
    (c.is_on.ensures c.if-is_on.false) c.end-then-take_filtered.ensures

-- some may be
pub returns-clause-ok : goal.returns-clause-ok
returns-clause-ok g c =
    let handed = handed_all c.args.notes.now c.take_listed.new.notes c.take_filtered.new.notes _ _ _ _ c.in_ok-take_listed.ensures.ok c.take_filtered.ensures.handed c.take_filtered.ensures.all c.take_filtered.ensures.keys in
    took_part c.args.notes.now c.take_filtered.new.notes c.args.tour.now (g.T.Bins.order c.args.bins.now) _ _ _ handed
