use Rattle.std.proofs.Common.{◌∙◌}
use Rattle.stack_slots.proofs.FrameLemmas.{store_describes}
use Rattle.stack_slots.proofs.MarkingLemmas.{marks_after, no_marks}
use Rattle.stack_slots.proofs.frame.Frame.store.Goals as goal

pub returns-then-access-clause-describes : goal.returns-then-access-clause-describes
returns-then-access-clause-describes c =
    let f = c.args.self.now in
    let a = c.args.access.now in
    store_describes f c.mark.new.self a c.args.value.now (marks_after f c.spill.new.self c.mark.new.self a c.spill.ensures.written c.mark.ensures.written) (λ slot. c.mark.ensures.slots slot ∙ c.spill.ensures.slots slot)

pub returns-else-access-clause-describes : goal.returns-else-access-clause-describes
returns-else-access-clause-describes c =
    let f = c.args.self.now in
    let a = c.args.access.now in
    store_describes f c.spill.new.self a c.args.value.now (no_marks f c.spill.new.self a c.if-access.false c.spill.ensures.written) c.spill.ensures.slots
