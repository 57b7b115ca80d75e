use Rattle.std.proofs.Common.{List, [], inr, sym, subst}
use Rattle.bpf_model.specs.declared.instruction.Insn.{Insn}
use Rattle.map_commands.specs.Commands.{SpellsProgram}
use Rattle.map_commands.proofs.commands.listed.Goals as goal

pub returns : goal.returns
returns c =
    inr record {
      program = c.instructions.result.now;
      spelled = subst (λ (p : List Insn). SpellsProgram c.args.text.now p) (sym c.instructions.ensures.value) c.in-Ok.ensures.ok;
      states = [];
      known = λ input bytes fits n s reach index known here at. absurd cc;
      told = c.in_ok-lines.ensures;
    }
