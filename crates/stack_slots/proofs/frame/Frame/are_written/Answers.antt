use Rattle.std.proofs.Common.{arith}
use Rattle.stack_slots.specs.Frames.{is_written}
use Rattle.stack_slots.proofs.frame.Frame.are_written.Goals as goal

pub returns-in-Result : goal.returns-in-Result
unfolding is_written
returns-in-Result c = record {
  exact = (
    λ yes i low high. rw c.in-Result.is (c.are_marked.ensures.exact.0 yes i low (omega arith)),
    λ each. c.are_marked.ensures.exact.1 (λ i low high. rw c.in-Result.is at (each i low (omega arith))),
  );
}

pub returns-in-Stack : goal.returns-in-Stack
unfolding is_written
returns-in-Stack c = record {
  exact = (
    λ yes i low high. rw c.in-Stack.is (c.are_marked-in-Stack.ensures.exact.0 yes i low (omega arith)),
    λ each. c.are_marked-in-Stack.ensures.exact.1 (λ i low high. rw c.in-Stack.is at (each i low (omega arith))),
  );
}
