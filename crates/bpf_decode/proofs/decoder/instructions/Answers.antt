use Rattle.std.proofs.Common.{◌≡◌, ◌∙◌, [], ◌∷◌, ◌++◌, ap, arith, inr}
use Rattle.bpf_model.specs.Spelling.{unit_bytes, spelling, spelling_of_all}
use Rattle.bpf_decode.specs.Faults.{decode_fault_at}
use Rattle.bpf_decode.proofs.Outcomes.{where_ok}
use Rattle.bpf_model.proofs.SpellingLaws.{AreInstructions-push}
use Rattle.bpf_decode.proofs.SpellingLemmas.{units_before, fewer_than_units, cut_unit, spelled_unit, spelled_more, rest_is_shorter}
use Rattle.bpf_decode.proofs.FaultLemmas.{Spells-all}
use Rattle.bpf_decode.proofs.decoder.instructions.Goals as goal

pub unwrap-requires : goal.unwrap-requires
unwrap-requires c =
    let fewer = fewer_than_units c.args.bytes.now c.loop-unit.rest.now c.loop-unit.instructions.items c.loop-unit.invariant.spelled (omega (arith, c.in-Some.ensures.cases.2)) in
    c.push.ensures.succeeds (omega (arith, fewer, c.loop-unit.invariant.room))

-- the rest begins with the instruction that was read
begins : (c : goal.After-unwrap) → c.loop-unit.rest.now ≡ spelling c.in-Ok.insn ++ c.in-Ok.next.now
begins c =
    let cases = c.in-Some.ensures.cases in
    cut_unit c.loop-unit.rest.now c.in-Some.unit.now c.in-Some.after.now (unit_bytes c.from_bytes.result) cases.0 cases.1 c.from_bytes.ensures.spelled ∙ c.in-Ok.ensures.spelled

pub loop-unit-smaller : goal.loop-unit-smaller
loop-unit-smaller c = (rest_is_shorter c.loop-unit.rest.now c.in-Ok.next.now c.in-Ok.insn (begins c)).0

pushed : (c : goal.After-unwrap) → c.push.new.self.items ≡ c.loop-unit.instructions.items ++ c.in-Ok.insn ∷ []
pushed c = c.push.ensures.items ∙ where_ok c.push.result c.unwrap.result _ _ c.unwrap.ensures

pub loop-unit-preserved : goal.loop-unit-preserved
loop-unit-preserved c = record {
  fits = rw (pushed c) (AreInstructions-push c.loop-unit.instructions.items c.in-Ok.insn c.loop-unit.invariant.fits c.in-Ok.ensures.instruction);
  spelled = rw (pushed c) (spelled_more c.args.bytes.now c.loop-unit.rest.now c.in-Ok.next.now c.loop-unit.instructions.items c.in-Ok.insn c.loop-unit.invariant.spelled (begins c));
  room = omega (arith, c.loop-unit.invariant.room, c.push.ensures.capacity);
  whole = (rest_is_shorter c.loop-unit.rest.now c.in-Ok.next.now c.in-Ok.insn (begins c)).1 c.loop-unit.invariant.whole;
}

pub returns-in-Err-clause-first_fault : goal.returns-in-Err-clause-first_fault
returns-in-Err-clause-first_fault c =
    let cases = c.in-Some.ensures.cases in
    inr (record {
      front = c.loop-unit.instructions.items;
      fields = c.from_bytes.result;
      rest = c.in-Some.after.now;
      of_unit = c.in-Err.fault;
      instructions = c.loop-unit.invariant.fits;
      fit = c.from_bytes.ensures.fit;
      spelled = spelled_unit c.args.bytes.now (spelling_of_all c.loop-unit.instructions.items) c.loop-unit.rest.now c.in-Some.unit.now (unit_bytes c.from_bytes.result) c.in-Some.after.now c.loop-unit.invariant.spelled cases.0 cases.1 c.from_bytes.ensures.spelled;
      faulty = c.in-Err.ensures.fault;
      named = c.at.ensures ∙ ap (λ unit. decode_fault_at unit c.in-Err.fault) (units_before c.args.bytes.now c.loop-unit.rest.now c.loop-unit.instructions.items c.loop-unit.invariant.spelled);
    })

pub returns-clause-found : goal.returns-clause-found
returns-clause-found c =
    Spells-all c.args.bytes.now c.loop-unit.rest.now c.loop-unit.instructions.items c.requires c.loop-unit.invariant.fits c.loop-unit.invariant.spelled
    (omega (arith, c.in_default.ensures.cases))
