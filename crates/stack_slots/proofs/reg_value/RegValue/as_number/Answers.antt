use Rattle.stack_slots.proofs.reg_value.RegValue.as_number.Goals as goal

pub returns-in-Unwritten-clause-holds : goal.returns-in-Unwritten-clause-holds
returns-in-Unwritten-clause-holds c = λ w stands. let word = rw c.in-Unwritten.is at stands in c.full.ensures w word
