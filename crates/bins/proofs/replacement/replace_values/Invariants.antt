use Rattle.std.proofs.Common.{◌≡◌, ◌≤◌, List, length}
use Rattle.std.specs.List.{count_by}
use Rattle.bins.specs.Replacements.{Outcome, is_given, is_unfit}
use Rattle.bins.specs.Passes.{AreOutcomes, entries_after}
use Rattle.bins.proofs.replacement.replace_values.Given as goal

-- each entry before this one was replaced once, and counted
abbrev pub invariant-loop-entry : goal.invariant-loop-entry
invariant-loop-entry l = record {
  outcomes : List Outcome;
  one_each : length outcomes ≡ l.entry-index;
  are_outcomes : AreOutcomes l.fn.program l.fn.arg l.fn.entries.items outcomes;
  entered : l.entry-items ≡ entries_after l.fn.entries.items outcomes;
  given : l.given ≡ count_by is_given outcomes;
  unfit : l.unfit ≡ count_by is_unfit outcomes;
  bounded_given : l.given ≤ l.entry-index;
  bounded_unfit : l.unfit ≤ l.entry-index;
}
