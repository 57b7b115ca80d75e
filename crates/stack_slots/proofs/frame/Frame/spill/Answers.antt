use Rattle.std.proofs.Common.{◌≡◌, true, ap, arith}
use Rattle.stack_slots.specs.Accesses.{is_stack}
use Rattle.stack_slots.specs.Frames.{spilled_in}
use Rattle.stack_slots.proofs.MarkingLemmas.{marks_alone, forgotten, stored}
use Rattle.stack_slots.proofs.frame.Frame.spill.Goals as goal
use Rattle.stack_slots.proofs.frame.Frame.spill.Goals.{in-Stack, in_default}

pub returns-in-Some-clause-written : goal.returns-in-Some-clause-written
returns-in-Some-clause-written c = marks_alone c.args.self.now _

pub returns-in-Some-clause-slots : goal.returns-in-Some-clause-slots
unfolding spilled_in
returns-in-Some-clause-slots c =
    let a = c.args.access.now in
    let stack : is_stack a.window ≡ true = elim c.match-matches.branch [ in-Stack w ↦ ap is_stack w.in-Stack.is | in_default w ↦ absurd cc ] in
    stored c.args.self.now a c.args.value.now c.forget.new.slots c.keep.new.slots c.div_ceil-past.result c.in-Some.slot stack (omega arith) c.forget.ensures.exact c.keep.ensures.exact c.in-Some.ensures.fills

pub returns-in_default-filled_slot-clause-written : goal.returns-in_default-filled_slot-clause-written
returns-in_default-filled_slot-clause-written c = marks_alone c.args.self.now _

pub returns-in_default-filled_slot-clause-slots : goal.returns-in_default-filled_slot-clause-slots
unfolding spilled_in
returns-in_default-filled_slot-clause-slots c = λ slot.
    let a = c.args.access.now in
    let stack : is_stack a.window ≡ true = elim c.match-matches.branch [ in-Stack w ↦ ap is_stack w.in-Stack.is | in_default w ↦ absurd cc ] in
    forgotten c.args.self.now a c.args.value.now c.forget.new.slots c.div_ceil-past.result stack (omega arith) c.forget.ensures.exact slot (c.in_default-filled_slot.ensures.none slot)
