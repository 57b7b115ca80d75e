use Rattle.timed_bins.proofs.ListedLemmas.{one_more}
use Rattle.timed_bins.proofs.deadlines.agenda_in.Goals as goal

pub loop-position-preserved : goal.loop-position-preserved
loop-position-preserved c =
    let key = rw c.unwrap.ensures at c.from_slice.ensures.value in
    one_more _ _ _ _ _ _ _ c.get.ensures.entry c.number_of.ensures key c.loop-position.invariant c.in_ok-push.ensures.ok
