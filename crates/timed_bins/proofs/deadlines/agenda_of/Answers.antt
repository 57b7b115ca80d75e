use Rattle.timed_bins.proofs.CopyLemmas.{copies_listed}
use Rattle.timed_bins.proofs.deadlines.agenda_of.Goals as goal

pub returns : goal.returns
returns g c = copies_listed _ _ _ (rw c.new-rows.ensures at c.in_ok-copy_into.ensures.ok) c.in_ok-agenda.ensures
