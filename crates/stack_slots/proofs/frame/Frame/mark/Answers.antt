use Rattle.std.proofs.Common.{refl, arith}
use Rattle.stack_slots.specs.Frames.{spilled_in}
use Rattle.stack_slots.proofs.MarkingLemmas.{marks_result, marks_stack}
use Rattle.stack_slots.proofs.frame.Frame.mark.Goals as goal

pub returns-in-Result-clause-written : goal.returns-in-Result-clause-written
returns-in-Result-clause-written c = marks_result c.args.self.now c.mark.new.words c.args.access.now _ c.in-Result.is c.requires.alone (omega arith) c.mark.ensures.exact

pub returns-in-Result-clause-slots : goal.returns-in-Result-clause-slots
unfolding spilled_in
returns-in-Result-clause-slots c = λ slot. refl

pub returns-in-Stack-clause-written : goal.returns-in-Stack-clause-written
returns-in-Stack-clause-written c = marks_stack c.args.self.now c.mark-in-Stack.new.words c.args.access.now _ c.in-Stack.is c.requires.alone (omega arith) c.mark-in-Stack.ensures.exact

pub returns-in-Stack-clause-slots : goal.returns-in-Stack-clause-slots
unfolding spilled_in
returns-in-Stack-clause-slots c = λ slot. refl
