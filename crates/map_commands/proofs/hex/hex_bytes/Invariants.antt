-- what was read spells the bytes so far
use Rattle.std.proofs.Common.{◌≡◌, ℕ, List, ◌++◌, length}
use Rattle.map_commands.specs.Hex.{SpellsBytes}
use Rattle.map_commands.proofs.hex.hex_bytes.Given as goal

abbrev pub invariant-loop-byte : goal.invariant-loop-byte
invariant-loop-byte l = (front : List ℕ) × (l.fn.text ≡ front ++ l.rest) × SpellsBytes front l.bytes.items

abbrev pub decreases-loop-byte : goal.decreases-loop-byte
decreases-loop-byte l = length l.rest
