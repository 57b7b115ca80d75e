use Rattle.timed_bins.proofs.HeapLemmas.{dues_moved}
use Rattle.timed_bins.proofs.deadlines.Agenda.push.Goals as goal

pub returns-clause-ok : goal.returns-clause-ok
returns-clause-ok c = rw (← c.self.view_is) (dues_moved _ _ c.in_ok-push.ensures.permutation)
