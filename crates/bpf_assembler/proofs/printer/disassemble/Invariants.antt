use Rattle.std.proofs.Common.{◌≡◌, take, string_bytes}
use Rattle.bpf_model.specs.Spelling.{AreInstructions}
use Rattle.bpf_assembler.specs.Text.{text_of}
use Rattle.bpf_assembler.proofs.printer.disassemble.Given as goal

-- the lines of the instructions so far
abbrev pub invariant-loop-insn : goal.invariant-loop-insn
invariant-loop-insn l = record {
  fits : AreInstructions (take l.insn-index l.insn-items);
  lines : string_bytes l.text ≡ text_of (take l.insn-index l.insn-items);
}
