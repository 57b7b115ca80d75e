use Rattle.std.proofs.Common.{inl, inr}
use Rattle.map_commands.proofs.WordLemmas.{none_is_named, name_is_one}
use Rattle.map_commands.proofs.words.task_of.Goals as goal

pub unreachable-requires : goal.unreachable-requires
unreachable-requires c = none_is_named _ _ c.in_default.ensures.variant c.requires

pub unreachable-requires-in_default-name : goal.unreachable-requires-in_default-name
unreachable-requires-in_default-name c =
    let not = c.in_default-name in
    elim (name_is_one _ _ _ c.in-Some.ensures.name c.requires) [
      | inl asm ↦ not.not-asm asm
      | inr (inl disasm) ↦ not.not-disasm disasm
      | inr (inr (inl check)) ↦ not.not-check check
      | inr (inr (inr (inl run))) ↦ not.not-run run
      | inr (inr (inr (inr exec))) ↦ not.not-exec exec
    ]
