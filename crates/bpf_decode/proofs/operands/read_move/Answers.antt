use Rattle.std.proofs.Common.{◌≡◌, ◌∙◌, ap, sym}
use Rattle.std.specs.Int.{w16, cast_unsigned}
use Rattle.std.proofs.lemmas.Int.{to_z-of_z}
use Rattle.bpf_model.specs.Spelling.{Fields}
use Rattle.bpf_decode.specs.UnitFaults.{is_move}
use Rattle.bpf_decode.proofs.Outcomes.{IfNone-anyway}
use Rattle.bpf_decode.proofs.OpcodeLemmas.{bad_move}
use Rattle.bpf_decode.proofs.operands.read_move.Goals as goal

pub returns-in_err-sign_extension-clause-none : goal.returns-in_err-sign_extension-clause-none
returns-in_err-sign_extension-clause-none c =
    let same : c.fields.inside.offset ≡ c.args.fields.offset = ap Fields.offset c.fields.view_is in
    let read = to_z-of_z w16 c.fields.inside.offset c.fields.invariant.offset ∙ same in
    IfNone-anyway c.from_residual.result
    (bad_move c.args.fields c.args.source c.args.width c.requires.opcode c.requires.operands.offset
    (λ e. c.if-fields-eq0.false (ap (cast_unsigned w16) (same ∙ e)))
    (ap (is_move c.args.width) (sym read) ∙ c.in_err-sign_extension.ensures.none))
