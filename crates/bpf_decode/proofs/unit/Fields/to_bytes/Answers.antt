use Rattle.std.proofs.Common.{◌∙◌, ap}
use Rattle.bpf_model.specs.Spelling.{unit_bytes}
use Rattle.bpf_decode.proofs.UnitLemmas.{unit_bytes-little}
use Rattle.bpf_decode.proofs.unit.Fields.to_bytes.Goals as goal

pub returns : goal.returns
returns c =
    let f = c.self.inside in
    rw (c.write_i32.ensures, c.write_i16.ensures)
    (unit_bytes-little (record { opcode = f.opcode; dst = f.dst; src = f.src; offset = f.offset; imm = f.imm }) c.self.invariant ∙ ap unit_bytes c.self.view_is)
