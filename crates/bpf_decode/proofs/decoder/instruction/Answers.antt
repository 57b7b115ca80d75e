use Rattle.std.proofs.Common.{◌∙◌, ap, Some, inl}
use Rattle.bpf_model.specs.Spelling.{Fields}
use Rattle.bpf_decode.specs.UnitFaults.{UnitHas}
use Rattle.bpf_decode.proofs.Outcomes.{IfErr-passed}
use Rattle.bpf_decode.proofs.OpcodeLemmas.{fault_of_use}
use Rattle.bpf_decode.proofs.decoder.instruction.Goals as goal

pub returns-in_err-check-clause-fault : goal.returns-in_err-check-clause-fault
returns-in_err-check-clause-fault c =
    IfErr-passed (UnitHas c.args.fields c.args.after.now) c.in_err-check.field-0.0 c.from_residual.result c.from_residual.ensures.1
    (inl (fault_of_use c.args.fields c.in-Some.opcode c.used_fields.result (Some c.in_err-check.field-0.0)
    (c.in-Some.ensures.some ∙ ap Fields.opcode c.fields.view_is) c.used_fields.ensures c.in_err-check.ensures.err))
