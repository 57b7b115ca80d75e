-- the bytes so far are in the text, and the lines of the others are what is left
use Rattle.std.proofs.Common.{◌≡◌, ◌++◌, drop}
use Rattle.map_commands.specs.Reports.{unit_lines, unit_lines_from}
use Rattle.map_commands.proofs.report.unit_lines.Given as goal

abbrev pub invariant-loop-index : goal.invariant-loop-index
invariant-loop-index l = unit_lines l.bytes ≡ l.text.items ++ unit_lines_from l.index (drop l.index l.bytes)
