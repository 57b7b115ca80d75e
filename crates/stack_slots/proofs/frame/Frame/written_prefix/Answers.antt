use Rattle.stack_slots.specs.Frames.{is_written}
use Rattle.stack_slots.proofs.frame.Frame.written_prefix.Goals as goal

pub returns-clause-written : goal.returns-clause-written
unfolding is_written
returns-clause-written c = c.prefix.ensures.marked

pub returns-clause-greatest : goal.returns-clause-greatest
unfolding is_written
returns-clause-greatest c = c.prefix.ensures.greatest
