use Rattle.std.proofs.Common.{◌≡◌, ◌≤◌, List, length}
use Rattle.std.specs.List.{count_by}
use Rattle.bins.specs.Entries.{entries_in}
use Rattle.bins.specs.Replacements.{Outcome, is_given, is_unfit}
use Rattle.bins.specs.Passes.{AreOutcomes, entries_after}
use Rattle.bins.proofs.replacement.replace_rows.Given as goal

-- each value before this one was replaced once, and counted
abbrev pub invariant-loop-position : goal.invariant-loop-position
invariant-loop-position l = record {
  outcomes : List Outcome;
  one_each : length outcomes ≡ l.position;
  are_outcomes : AreOutcomes l.fn.program l.fn.arg (entries_in l.fn.rows.keys l.fn.rows.values) outcomes;
  keys : l.rows.keys ≡ l.fn.rows.keys;
  entered : entries_in l.fn.rows.keys l.rows.values ≡ entries_after (entries_in l.fn.rows.keys l.fn.rows.values) outcomes;
  paired : length l.fn.rows.keys ≡ length l.rows.values;
  given : l.given ≡ count_by is_given outcomes;
  unfit : l.unfit ≡ count_by is_unfit outcomes;
  bounded_given : l.given ≤ l.position;
  bounded_unfit : l.unfit ≤ l.position;
}
