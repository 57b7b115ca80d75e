use Rattle.std.proofs.Common.{◌≡◌, ◌≤◌, length}
use Rattle.std.specs.Prelude.{vec_capacity}
use Rattle.atomic_methods.specs.Runs.{AnswersInTurn, first_of}
use Rattle.atomic_methods.proofs.striped.Striped.run.Given as goal

-- the calls so far were made in turn, and there is room for the other replies
abbrev pub invariant-loop-call : goal.invariant-loop-call
invariant-loop-call l = record {
  made : AnswersInTurn l.fn.self (first_of l.calls l.call-index) l.self l.replies.items;
  count : length l.replies.items ≡ l.call-index;
  room : length l.calls ≤ vec_capacity l.replies;
}
