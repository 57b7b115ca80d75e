use Rattle.stack_slots.proofs.MarkingLemmas.{meets_marks, joins_slots}
use Rattle.stack_slots.proofs.FrameLemmas.{join_describes_first, join_describes_second, join_values}
use Rattle.stack_slots.proofs.frame.Frame.join_with.Goals as goal

pub returns-clause-marks : goal.returns-clause-marks
returns-clause-marks c = meets_marks c.args.self.now c.args.other.now _ c.keep_common.ensures.exact c.keep_common-2.ensures.exact

pub returns-clause-slots : goal.returns-clause-slots
returns-clause-slots c = joins_slots c.args.self.now c.args.other.now _ c.join_slots.ensures.exact

pub returns-clause-first : goal.returns-clause-first
returns-clause-first c = join_describes_first c.args.self.now c.args.other.now _ (returns-clause-marks c) (returns-clause-slots c)

pub returns-clause-second : goal.returns-clause-second
returns-clause-second c = join_describes_second c.args.self.now c.args.other.now _ (returns-clause-marks c) (returns-clause-slots c)

pub returns-clause-values : goal.returns-clause-values
returns-clause-values c = join_values c.args.self.now c.args.other.now _ (returns-clause-slots c)
