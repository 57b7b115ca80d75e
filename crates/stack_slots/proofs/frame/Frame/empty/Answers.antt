use Rattle.stack_slots.proofs.MarkingLemmas.{empty_written, empty_describes, empty_values}
use Rattle.stack_slots.proofs.frame.Frame.empty.Goals as goal

pub returns-clause-written : goal.returns-clause-written
returns-clause-written c = empty_written

pub returns-clause-describes : goal.returns-clause-describes
returns-clause-describes c = empty_describes

pub returns-clause-values : goal.returns-clause-values
returns-clause-values c = empty_values
