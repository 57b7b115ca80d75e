-- the longest echo so far, and of the words that are left
use Rattle.std.proofs.Common.{◌≡◌, ◌≤◌, length, drop}
use Rattle.std.specs.Prelude.{max}
use Rattle.clap.specs.Walk.{texts}
use Rattle.map_commands.specs.Shown.{longest_echo}
use Rattle.map_commands.proofs.shown.longest_echo.Given as goal

abbrev pub invariant-loop-word : goal.invariant-loop-word
invariant-loop-word l = record {
  all : max l.longest (longest_echo l.text (drop l.word-index (texts l.words))) ≡ longest_echo l.text (texts l.words);
  inside : l.longest ≤ length l.text;
}
