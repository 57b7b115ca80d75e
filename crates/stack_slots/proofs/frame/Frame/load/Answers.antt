use Rattle.std.proofs.Common.{rules}
use Rattle.stack_slots.proofs.FrameLemmas.{load_slot, load_range}
use Rattle.stack_slots.proofs.frame.Frame.load.Goals as goal

pub returns-in-Some-clause-found : goal.returns-in-Some-clause-found
returns-in-Some-clause-found c = λ memory distance small d at.
    let found = c.in-Some.ensures.found in
    let written = c.are_written.ensures.exact.0 (rw c.if-not-are_written.false (search rules)) in
    load_slot c.args.self.now c.args.access.now memory distance found.0 c.in-Some.value found.1.0 found.1.1 written d at

pub returns-in-None-clause-found : goal.returns-in-None-clause-found
returns-in-None-clause-found c = λ memory distance small d at.
    let written = c.are_written.ensures.exact.0 (rw c.if-not-are_written.false (search rules)) in
    load_range c.args.self.now c.args.access.now memory distance c.loadable.result c.loadable.ensures.holds small written d at
