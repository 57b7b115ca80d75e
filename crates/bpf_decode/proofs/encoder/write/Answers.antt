use Rattle.std.proofs.Common.{◌∙◌, ◌++◌, ap, subst}
use Rattle.bpf_model.specs.Spelling.{IsRegister, unit_bytes}
use Rattle.bpf_decode.specs.UnitFaults.{FitUnit}
use Rattle.bpf_decode.proofs.Outcomes.{where_ok}
use Rattle.bpf_decode.proofs.FieldLemmas.{is_instruction, one_unit, one_unit_spelled}
use Rattle.bpf_decode.proofs.encoder.write.Goals as goal

pub returns-in_default : goal.returns-in_default
returns-in_default c =
    let fields = c.of.ensures.fields in
    record {
      instruction = is_instruction c.args.insn.now (subst (λ f. IsRegister f.dst) fields c.of.ensures.dst) (subst (λ f. IsRegister f.src) fields c.of.ensures.src)
          (subst FitUnit fields c.of.ensures.fit) (one_unit c.args.insn.now c.in_default.not-Wide).0;
      written = c.extend_from_slice.ensures.items ∙ where_ok c.extend_from_slice.result c.unwrap.result _ _ c.unwrap.ensures
          ∙ ap (λ x. c.args.bytes.now.items ++ x) (one_unit_spelled c.args.insn.now c.to_bytes.result c.in_default.not-Wide (c.to_bytes.ensures ∙ ap unit_bytes fields));
      room = c.extend_from_slice.ensures.capacity;
    }
