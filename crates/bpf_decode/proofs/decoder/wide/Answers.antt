use Rattle.std.proofs.Common.{◌+◌, ◌*◌, ◌^◌, inr, refl, sym, ap, ◌∙◌, subst}
use Rattle.std.specs.Int.{w32, cast_signed, cast_unsigned}
use Rattle.std.proofs.lemmas.Int.{to_z-of_z}
use Rattle.bpf_model.specs.Spelling.{Fields, unit_bytes}
use Rattle.bpf_decode.specs.UnitFaults.{FitUnit}
use Rattle.bpf_decode.proofs.SpellingLemmas.{cut_unit}
use Rattle.bpf_decode.proofs.WideLemmas.{halves_spell}
use Rattle.bpf_decode.proofs.decoder.wide.Goals as goal

pub returns-then-not-has_imm_alone-clause-fault : goal.returns-then-not-has_imm_alone-clause-fault
returns-then-not-has_imm_alone-clause-fault c =
    let cases = c.in-Some.ensures.cases in
    inr (
      refl,
      record {
        fields = c.from_bytes-second.result;
        rest = c.in-Some.rest.now;
        fit = c.from_bytes-second.ensures.fit;
        spelled = cut_unit c.args.after.now c.in-Some.unit.now c.in-Some.rest.now (unit_bytes c.from_bytes-second.result) cases.0 cases.1 c.from_bytes-second.ensures.spelled;
        more = sym c.has_imm_alone.ensures ∙ c.if-not-has_imm_alone.true;
      },
    )

pub returns-clause-spelled : goal.returns-clause-spelled
returns-clause-spelled c =
    let cases = c.in-Some.ensures.cases in
    let low = to_z-of_z w32 c.first.inside.imm c.first.invariant.imm ∙ ap Fields.imm c.first.view_is in
    let high = to_z-of_z w32 c.second.inside.imm c.second.invariant.imm ∙ ap Fields.imm c.second.view_is in
    let value = c.value_of_halves.ensures
    ∙ ap (λ z. cast_unsigned w32 z * 2 ^ 32 + cast_unsigned w32 (cast_signed w32 (cast_unsigned w32 c.first.inside.imm))) high
    ∙ ap (λ z. cast_unsigned w32 c.from_bytes-second.result.imm * 2 ^ 32 + cast_unsigned w32 z) low in
    halves_spell c.args.first c.from_bytes-second.result c.register.result c.value_of_halves.result c.args.after.now c.in-Some.rest.now
    c.requires.first.opcode c.requires.operands (subst FitUnit c.first.view_is c.first.invariant) c.from_bytes-second.ensures.fit (sym c.has_imm_alone.ensures ∙ c.if-not-has_imm_alone.false) (c.register.ensures ∙ ap Fields.dst c.first.view_is) value
    (cut_unit c.args.after.now c.in-Some.unit.now c.in-Some.rest.now (unit_bytes c.from_bytes-second.result) cases.0 cases.1 c.from_bytes-second.ensures.spelled)
