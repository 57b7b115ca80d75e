use Rattle.noted_bins.proofs.HandLemmas.{took_all}
use Rattle.noted_bins.proofs.noted.take_all.Goals as goal

pub returns-clause-ok : goal.returns-clause-ok
returns-clause-ok g c = took_all _ c.forget.new.self c.end.new.self (g.T.Bins.order c.args.bins.now) _ _ _ c.in_ok-add_all.ensures.ok c.forget.ensures.all c.forget.ensures.keys c.forget.ensures.filter c.end.ensures
