use Rattle.std.proofs.Common.{◌∙◌, ap, sym}
use Rattle.std.specs.Int.{w16}
use Rattle.std.proofs.lemmas.Int.{to_z-of_z}
use Rattle.bpf_model.specs.Spelling.{Fields}
use Rattle.bpf_decode.specs.UnitFaults.{is_sign}
use Rattle.bpf_decode.proofs.Outcomes.{IfNone-anyway}
use Rattle.bpf_decode.proofs.OpcodeLemmas.{bad_sign}
use Rattle.bpf_decode.proofs.operands.read_alu.Goals as goal

pub returns-in_err-with_sign-clause-none : goal.returns-in_err-with_sign-clause-none
returns-in_err-with_sign-clause-none c =
    let read = to_z-of_z w16 c.fields.inside.offset c.fields.invariant.offset ∙ ap Fields.offset c.fields.view_is in
    IfNone-anyway c.from_residual.result
    (bad_sign c.args.fields c.args.op c.args.source c.args.width c.requires.opcode c.in_err-with_sign.ensures.division
    (ap is_sign (sym read) ∙ c.in_err-with_sign.ensures.none))
