use Rattle.std.proofs.Common.{string_bytes}
use Rattle.map_commands.proofs.meaning.told_instruction.Goals as goal

pub returns : goal.returns
returns c = (string_bytes c.in_ok-known.known, c.in_ok-known.ensures, rw c.deref.ensures at c.in_ok-line.ensures)
