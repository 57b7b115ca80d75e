use Rattle.timed_bins.specs.Agendas.{AreRowsListed}
use Rattle.timed_bins.proofs.deadlines.agenda_in.Given as goal

abbrev pub invariant-loop-position : goal.invariant-loop-position
invariant-loop-position l = AreRowsListed l.rows l.position l.agenda
