-- the bytes so far are shown
use Rattle.std.proofs.Common.{◌≡◌, ◌++◌, take}
use Rattle.std.specs.List.{flat_map}
use Rattle.map_commands.specs.Shown.{shown_byte}
use Rattle.map_commands.proofs.shown.show_word.Given as goal

abbrev pub invariant-loop-byte : goal.invariant-loop-byte
invariant-loop-byte l = l.shown.items ≡ l.fn.shown.items ++ flat_map shown_byte (take l.byte-index l.front)
