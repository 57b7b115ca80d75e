use Rattle.std.proofs.Common.{sym}
use Rattle.stack_slots.specs.Frames.{spilled_in}
use Rattle.stack_slots.proofs.MarkingLemmas.{value_found, value_missing}
use Rattle.stack_slots.proofs.frame.Frame.spilled.Goals as goal

pub returns-clause-found : goal.returns-clause-found
unfolding spilled_in
returns-clause-found c = value_found c.args.self.now c.args.access.now c.in_ok-slot.slot _ c.in_ok-slot.ensures.fills (sym c.value_of.ensures.value)

pub returns-clause-none : goal.returns-clause-none
unfolding spilled_in
returns-clause-none c = value_missing c.args.self.now c.args.access.now c.in_ok-slot.slot _ c.in_ok-slot.ensures.fills (sym c.value_of.ensures.value)
