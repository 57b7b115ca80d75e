use Rattle.std.proofs.Common.{rules}
use Rattle.timed_bins.proofs.HeapLemmas.{popped}
use Rattle.timed_bins.proofs.deadlines.Agenda.drop_first.Goals as goal

pub returns : goal.returns
returns c = rw (← c.self.view_is) (popped _ _ c.pop.result (search rules) c.pop.ensures.top c.pop.ensures.permutation)
