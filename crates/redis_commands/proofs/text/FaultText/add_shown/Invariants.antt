use Rattle.std.proofs.Common.{◌≡◌, ◌+◌, ◌++◌, length, drop}
use Rattle.redis_commands.specs.Texts.{shown}
use Rattle.redis_commands.proofs.text.FaultText.add_shown.Given as goal

-- what is added and what is left to show are what is shown of the word
abbrev pub invariant-loop-b : goal.invariant-loop-b
invariant-loop-b l =
    (l.self-inside.bytes.items ++ shown l.left (drop l.b-index l.word) ≡ l.initial.self-inside.bytes.items ++ shown l.most l.word)
    × (length l.self-inside.bytes.items + l.left ≡ length l.initial.self-inside.bytes.items + l.most)
