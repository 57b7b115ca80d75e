use Rattle.std.proofs.Common.{◌∙◌, List, inr, sym, subst}
use Rattle.bpf_model.specs.declared.instruction.Insn.{Insn}
use Rattle.map_commands.specs.Commands.{SpellsProgram}
use Rattle.map_commands.proofs.commands.explained.Goals as goal

pub returns : goal.returns
returns c =
    let same = c.instructions.ensures.value ∙ c.program.ensures.value ∙ c.in-Ok-shape.ensures.same in
    inr record {
      program = c.instructions.result.now;
      spelled = subst (λ (p : List Insn). SpellsProgram c.args.text.now p) (sym same) c.in-Ok.ensures.ok;
      states = c.deref.result.now;
      known = rw (c.instructions.ensures.value, c.program.ensures.value, c.deref.ensures.value) c.in_ok-states.ensures.sound;
      told = c.in_ok-lines.ensures;
    }
