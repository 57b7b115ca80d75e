-- The faulty unit of a refused program is below a bound.
use Rattle.std.proofs.Common.{◌≡◌, ℕ, ◌+◌, ◌*◌, ◌<◌, ◌≤◌, ◌^◌, ◌/◌, ◌%◌, inl, inr, Bool, true, false, List, ◌++◌, length, Some, None, sym, ap, ◌∙◌, arith, ℤ}
use Rattle.std.specs.Prelude.{nat_eq, nat_lt, not, cond}
use Rattle.std.proofs.lemmas.Bool.Decides.{nat_tests}
use Rattle.std.proofs.lemmas.List.{length-append}
use Rattle.bpf_model.specs.declared.limits.TheConstants.{PROGRAM_UNITS}
use Rattle.bpf_model.specs.declared.input.Sizes.{Sizes}
use Rattle.bpf_model.specs.declared.instruction.Insn.{Insn}
use Rattle.bpf_model.specs.Program.{unit_count, instruction_at}
use Rattle.bpf_model.specs.Spelling.{unit_bytes, spelling_of_all}
use Rattle.bpf_model.proofs.Options.{chain_some, is_there, some_is, test_of}
use Rattle.bpf_model.proofs.SpellingLaws.{length-spelling_of_all}
use Rattle.bpf_decode.specs.Faults as decode
use Rattle.bpf_decode.specs.declared.fault.DecodeFault.{DecodeFault}
use Rattle.bpf_decode.specs.declared.fault.DecodeFault.TheVariants.{Empty, NotWholeUnits, TooManyUnits}
use Rattle.bpf_decode.proofs.UnitOfFault.{unit_of-at_unit}
use Rattle.flow_shape.specs.FlowShape as flow
use Rattle.flow_shape.specs.Jumps.{distance_of, JumpsBy}
use Rattle.flow_shape.specs.declared.fault.FlowFault.{FlowFault}
use Rattle.flow_shape.specs.declared.fault.FlowFault.TheVariants.{BackwardJump, JumpOut, JumpIntoWide, FallsOffEnd}
use Rattle.flow_shape.proofs.FaultLemmas.{starts_inside}
use Rattle.admission.specs.declared.fault.AdmissionFault.{AdmissionFault}
use Rattle.admission.specs.declared.fault.AdmissionFault.TheVariants.{Decode, Flow, Verify}
use Rattle.admission.specs.Admissions.{Allowance, admission_fault_unit, IsNotAdmitted}

-- ---- faults of decoding

-- a fault of the length names unit 0
length_unit : (a b c : Bool) (fault : DecodeFault) → cond a (Some Empty) (cond b (Some NotWholeUnits) (cond c (Some TooManyUnits) None)) ≡ Some fault → decode.decode_fault_unit fault ≡ 0
length_unit true b c fault e = ap decode.decode_fault_unit (sym (some_is Empty fault e))
length_unit false true c fault e = ap decode.decode_fault_unit (sym (some_is NotWholeUnits fault e))
length_unit false false true fault e = ap decode.decode_fault_unit (sym (some_is TooManyUnits fault e))
length_unit false false false fault e = absurd cc

-- if the length has no fault, the number of units is bounded
bounded_units : (a b : Bool) (n : ℕ) → cond a (Some Empty) (cond b (Some NotWholeUnits) (cond (nat_lt PROGRAM_UNITS n) (Some TooManyUnits) None)) ≡ None → n ≤ PROGRAM_UNITS
bounded_units true b n e = absurd cc
bounded_units false true n e = absurd cc
bounded_units false false n e =
    elim (test_of (nat_lt PROGRAM_UNITS n)) [
      | inl t ↦ absurd (is_some (rw t at e))
      | inr f ↦ grind (arith, nat_tests)
    ]
  where
    is_some : {x : DecodeFault} → Some x ≡ None → ⊥
    is_some e = cc

decode_unit : (bytes : List ℕ) (fault : DecodeFault) → decode.IsFirstDecodeFault bytes fault → decode.decode_fault_unit fault < 2 ^ 32
decode_unit bytes fault (inl e) = let zero : decode.decode_fault_unit fault ≡ 0 = length_unit (nat_eq (length bytes) 0) (not (nat_eq (length bytes % 8) 0)) (nat_lt PROGRAM_UNITS (length bytes / 8)) fault e in omega (arith, zero)
decode_unit bytes fault (inr (e, has)) =
    let bounded : length bytes / 8 ≤ PROGRAM_UNITS = bounded_units (nat_eq (length bytes) 0) (not (nat_eq (length bytes % 8) 0)) (length bytes / 8) e in
    let after = unit_bytes has.fields ++ has.rest in
    let len : length bytes ≡ 8 * unit_count has.front + length after = ap length has.spelled ∙ length-append (spelling_of_all has.front) after ∙ omega (arith, length-spelling_of_all has.front) in
    let named : decode.decode_fault_unit fault ≡ unit_count has.front = ap decode.decode_fault_unit has.named ∙ unit_of-at_unit (unit_count has.front) has.of_unit in
    omega (arith, bounded, len, named)

-- ---- faults of flow

jumps_inside : (program : List Insn) (unit : ℕ) (distance : ℤ) → JumpsBy program unit distance → unit < unit_count program
jumps_inside program unit distance jumps =
    let (i, there, is) = chain_some distance_of (instruction_at program unit) distance jumps in
    starts_inside program unit (is_there (instruction_at program unit) i there)

flow_unit : (program : List Insn) (fault : FlowFault) → flow.HasFault program fault → flow.flow_fault_unit fault < unit_count program
flow_unit program (BackwardJump unit) (distance, (jumps, back)) = jumps_inside program unit distance jumps
flow_unit program (JumpOut unit) (distance, (jumps, out)) = jumps_inside program unit distance jumps
flow_unit program (JumpIntoWide unit) has = jumps_inside program unit has.distance has.jumps
flow_unit program (FallsOffEnd unit) has = starts_inside program unit (is_there (instruction_at program unit) has.instruction has.at)

-- ---- refusals

pub refused_unit : (limits : Allowance) (bytes : List ℕ) (sizes : Sizes) (fault : AdmissionFault) → IsNotAdmitted limits bytes sizes fault → admission_fault_unit fault < 2 ^ 32
refused_unit limits bytes sizes (Decode fault) (inl (many, is)) = let zero : decode.decode_fault_unit fault ≡ 0 = ap decode.decode_fault_unit is in omega (arith, zero)
refused_unit limits bytes sizes (Decode fault) (inr (few, inl is)) = let zero : decode.decode_fault_unit fault ≡ 0 = ap decode.decode_fault_unit is in omega (arith, zero)
refused_unit limits bytes sizes (Decode fault) (inr (few, inr first)) = decode_unit bytes fault first
refused_unit limits bytes sizes (Flow fault) (few, (program, spelled, first)) = let inside = flow_unit program fault first.has in omega (arith, inside, spelled.program.bounded)
refused_unit limits bytes sizes (Verify fault) (few, (program, spelled, shaped, inside, large, plain)) = omega (arith, inside, spelled.program.bounded)
