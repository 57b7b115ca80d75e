use Rattle.timed_bins.proofs.HeapLemmas.{soonest}
use Rattle.timed_bins.proofs.deadlines.Agenda.first.Goals as goal

pub returns-clause-soonest : goal.returns-clause-soonest
returns-clause-soonest c = rw (← c.self.view_is) (soonest _ _ (c.in_ok-at.ensures.greatest c.self.invariant))
