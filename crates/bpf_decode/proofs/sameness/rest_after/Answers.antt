use Rattle.std.proofs.Common.{◌≡◌, ◌∙◌, ◌++◌, Some, None, ap, sym, subst}
use Rattle.bpf_model.specs.Spelling.{IsRegister, unit_bytes, fields_of, second_bytes}
use Rattle.bpf_decode.specs.UnitFaults.{FitUnit}
use Rattle.bpf_decode.proofs.FieldLemmas.{is_instruction, one_unit}
use Rattle.bpf_decode.proofs.SamenessLemmas.{CutsOff, stripped, no_first_unit, both_units, second_found, second_missing}
use Rattle.bpf_decode.proofs.sameness.rest_after.Goals as goal

pub returns-in_default-clause-other : goal.returns-in_default-clause-other
returns-in_default-clause-other c =
    no_first_unit c.args.insn.now c.args.bytes.now
    (stripped c.to_bytes.result (unit_bytes (fields_of c.args.insn.now)) c.args.bytes.now None (c.to_bytes.ensures ∙ ap unit_bytes c.of.ensures.fields) c.in_default.ensures.cases)

-- the bytes begin with the first unit
first_unit : (c : goal.After-strip_prefix-in-Wide) → c.args.bytes.now ≡ unit_bytes (fields_of c.args.insn.now) ++ c.in-Some.rest.now
first_unit c =
    stripped c.to_bytes.result (unit_bytes (fields_of c.args.insn.now)) c.args.bytes.now (Some c.in-Some.rest) (c.to_bytes.ensures ∙ ap unit_bytes c.of.ensures.fields) c.in-Some.ensures.cases

-- the second unit is cut off, or isn't there
second_unit_cut : (c : goal.After-strip_prefix-in-Wide) → CutsOff (second_bytes c.args.insn.now) c.in-Some.rest.now c.strip_prefix-in-Wide.result
second_unit_cut c =
    stripped c.to_bytes-in-Wide.result (second_bytes c.args.insn.now) c.in-Some.rest.now c.strip_prefix-in-Wide.result
    (c.to_bytes-in-Wide.ensures ∙ ap unit_bytes c.second_half.ensures.fields ∙ sym (ap second_bytes c.in-Wide.is)) c.strip_prefix-in-Wide.ensures.cases

pub returns-in-Wide-clause-begins : goal.returns-in-Wide-clause-begins
returns-in-Wide-clause-begins c = second_found c.args.insn.now c.args.bytes.now c.in-Some.rest.now c.strip_prefix-in-Wide.result (first_unit c) (second_unit_cut c)

pub returns-in-Wide-clause-other : goal.returns-in-Wide-clause-other
returns-in-Wide-clause-other c = second_missing c.args.insn.now c.args.bytes.now c.in-Some.rest.now c.strip_prefix-in-Wide.result (first_unit c) (second_unit_cut c)

pub returns : goal.returns
returns c =
    let fields = c.of.ensures.fields in
    let first = stripped c.to_bytes.result (unit_bytes (fields_of c.args.insn.now)) c.args.bytes.now (Some c.in-Some.rest) (c.to_bytes.ensures ∙ ap unit_bytes fields) c.in-Some.ensures.cases in
    let one = one_unit c.args.insn.now c.in_default-insn.not-Wide in
    record {
      instruction = is_instruction c.args.insn.now (subst (λ f. IsRegister f.dst) fields c.of.ensures.dst) (subst (λ f. IsRegister f.src) fields c.of.ensures.src)
          (subst FitUnit fields c.of.ensures.fit) one.0;
      begins = both_units c.args.insn.now c.args.bytes.now c.in-Some.rest.now c.in-Some.rest.now first (sym (ap (λ x. x ++ c.in-Some.rest.now) one.1));
      other = tt;
    }
