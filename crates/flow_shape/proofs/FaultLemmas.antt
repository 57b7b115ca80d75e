-- Which faults the instruction at a unit has, and which a program has up to a unit.
use Rattle.std.proofs.Common.{◌≡◌, ◌≢◌, ℕ, suc, ◌+◌, ◌<◌, ◌≤◌, true, List, length, take, Some, None, refl, sym, ap, subst, ◌∙◌, inl, inr, arith, ℤ, pos, negsuc, ◌<ℤ◌, ◌≤ℤ◌}
use Rattle.std.specs.Prelude.{slice_get, IsSome}
use Rattle.std.proofs.lemmas.Bool.{cases_order}
use Rattle.std.proofs.lemmas.List.{take_all}
use Rattle.bpf_model.specs.declared.instruction.Insn.{Insn}
use Rattle.bpf_model.specs.Program.{units_of, unit_count, instruction_at}
use Rattle.bpf_model.specs.Step.{unit_of}
use Rattle.bpf_model.proofs.Options.{chain_some, value_there, some_is}
use Rattle.bpf_model.proofs.ProgramLemmas.{unit_count-next, none_inside, none_past}
use Rattle.flow_shape.specs.declared.fault.FlowFault.{FlowFault}
use Rattle.flow_shape.specs.declared.fault.FlowFault.TheVariants.{BackwardJump, JumpOut, JumpIntoWide, FallsOffEnd}
use Rattle.flow_shape.specs.Jumps.{distance_of, falls_through, JumpsBy, target_of}
use Rattle.flow_shape.specs.FlowShape.{JumpsIntoWide, Falls, HasFault, IsWellShaped, Lands, flow_fault_unit, flow_fault_number}
use Rattle.flow_shape.specs.Layouts.{HasNoFaultAt, IsFirstFaultAt, DoesLand}

-- a whole number that is a unit is equal to it
pub unit_is : (z : ℤ) (t : ℕ) → unit_of z ≡ Some t → z ≡ pos t
unit_is (pos u) t e = ap pos (some_is u t e)
unit_is (negsuc u) t e = absurd cc

-- a unit at which an instruction starts is inside
pub starts_inside : (program : List Insn) (unit : ℕ) → IsSome (instruction_at program unit) → unit < unit_count program
starts_inside program unit there =
    let x = value_there (instruction_at program unit) there in
    elim (cases_order unit (unit_count program)) [
      | inl end ↦ absurd (let none = none_past program unit (omega (arith, end)) in let e = x.1 in cc)
      | inr apart ↦ elim apart [
        | inl inside ↦ inside
        | inr past ↦ absurd (let none = none_past program unit (omega (arith, past)) in let e = x.1 in cc)
      ]
    ]

-- a jump that lands has none of the three faults
pub lands_forward : (program : List Insn) (unit : ℕ) (d : ℤ) → Lands program unit d → (d <ℤ pos 0) → ⊥
lands_forward program unit d lands back =
    let aims = unit_is (target_of unit d) lands.target lands.aims in
    absurd (grind (arith, aims, back, lands.forward))

pub lands_inside : (program : List Insn) (unit : ℕ) (d : ℤ) → Lands program unit d → (pos (unit_count program) ≤ℤ target_of unit d) → ⊥
lands_inside program unit d lands out =
    let aims = unit_is (target_of unit d) lands.target lands.aims in
    absurd (grind (arith, aims, out, starts_inside program lands.target lands.starts))

pub lands_at_start : (program : List Insn) (unit : ℕ) (into : JumpsIntoWide program unit) → Lands program unit into.distance → ⊥
lands_at_start program unit into lands =
    let aims = unit_is (target_of unit into.distance) lands.target lands.aims in
    let target : lands.target ≡ into.target = grind (arith, aims, into.aims) in
    let there = value_there (instruction_at program lands.target) lands.starts in
    let none : instruction_at program lands.target ≡ None = ap (instruction_at program) target ∙ into.half.1 in
    let e = there.1 in
    absurd cc

-- an instruction whose jump lands can only fall off the end
only_falls : (program : List Insn) (unit : ℕ) → DoesLand program unit → (fault : FlowFault) → HasFault program fault → flow_fault_unit fault ≡ unit → fault ≡ FallsOffEnd unit
only_falls program unit lands (BackwardJump u) has here =
    let jumps = subst (λ (k : ℕ). JumpsBy program k has.0) here has.1.0 in
    absurd (lands_forward program unit has.0 (lands has.0 jumps) has.1.1)
only_falls program unit lands (JumpOut u) has here =
    let jumps = subst (λ (k : ℕ). JumpsBy program k has.0) here has.1.0 in
    let out = subst (λ (k : ℕ). pos (unit_count program) ≤ℤ target_of k has.0) here has.1.1 in
    absurd (lands_inside program unit has.0 (lands has.0 jumps) out)
only_falls program unit lands (JumpIntoWide u) has here =
    let into = subst (λ (k : ℕ). JumpsIntoWide program k) here has in
    absurd (lands_at_start program unit into (lands into.distance into.jumps))
only_falls program unit lands (FallsOffEnd u) has here = ap FallsOffEnd here

-- if the jump lands and no run leaves the program after the instruction, it has no fault
pub clear_here : (program : List Insn) (unit : ℕ) (i : Insn) → instruction_at program unit ≡ Some i → DoesLand program unit → (falls_through i ≡ true → unit + units_of i ≢ unit_count program) → HasNoFaultAt program unit
clear_here program unit i at lands goes_on fault has here =
    let falls : Falls program unit = subst (λ (f : FlowFault). HasFault program f) (only_falls program unit lands fault has here) has in
    let same : falls.instruction ≡ i = some_is falls.instruction i (sym falls.at ∙ at) in
    goes_on (ap falls_through (sym same) ∙ falls.goes_on) (ap (λ (j : Insn). unit + units_of j) (sym same) ∙ falls.last)

-- and if a run leaves it there, this is its only fault
pub falls_here : (program : List Insn) (unit : ℕ) (i : Insn) → instruction_at program unit ≡ Some i → DoesLand program unit → falls_through i ≡ true → unit + units_of i ≡ unit_count program → IsFirstFaultAt program unit (FallsOffEnd unit)
falls_here program unit i at lands goes_on last = record {
  has = record { instruction = i; at = at; last = last; goes_on = goes_on };
  at = refl;
  least = λ other has here. omega (arith, ap flow_fault_number (only_falls program unit lands other has here));
}

-- none of the units of the first k instructions has a fault
pub record Passed (program : List Insn) (k unit : ℕ) : Type 0 where
  pub counted : unit ≡ unit_count (take k program)
  pub clear : (fault : FlowFault) → HasFault program fault → unit ≤ flow_fault_unit fault

pub none_passed : (program : List Insn) → Passed program 0 0
unfolding unit_count
none_passed program = record { counted = refl; clear = λ fault has. omega arith }

-- a fault belongs to the instruction that starts at its unit
fault_stands : (program : List Insn) (fault : FlowFault) → HasFault program fault → (i : Insn) × (instruction_at program (flow_fault_unit fault) ≡ Some i)
fault_stands program (BackwardJump u) has = let j = chain_some distance_of (instruction_at program u) has.0 has.1.0 in (j.0, j.1)
fault_stands program (JumpOut u) has = let j = chain_some distance_of (instruction_at program u) has.0 has.1.0 in (j.0, j.1)
fault_stands program (JumpIntoWide u) has = let j = chain_some distance_of (instruction_at program u) has.distance has.jumps in (j.0, j.1)
fault_stands program (FallsOffEnd u) has = (has.instruction, has.at)

pub more_passed : (program : List Insn) (k unit : ℕ) (i : Insn) → slice_get program k ≡ Some i → Passed program k unit → HasNoFaultAt program unit → Passed program (suc k) (unit + units_of i)
more_passed program k unit i here passed none = record { counted = omega (arith, passed.counted, unit_count-next program k i here); clear = clear }
  where
    clear : (fault : FlowFault) → HasFault program fault → unit + units_of i ≤ flow_fault_unit fault
    clear fault has =
        elim (cases_order (flow_fault_unit fault) (unit + units_of i)) [
          | inl end ↦ omega (arith, end)
          | inr apart ↦ elim apart [
            | inl inside ↦
                let later : unit < flow_fault_unit fault = omega (arith, passed.clear fault has, none fault has) in
                let nothing = none_inside program k i (flow_fault_unit fault) here (omega (arith, passed.counted, later)) (omega (arith, passed.counted, inside)) in
                let stands = fault_stands program fault has in
                let e = stands.1 in
                absurd cc
            | inr past ↦ omega (arith, past)
          ]
        ]

-- if all instructions are passed, the program is well shaped
pub all_passed : (program : List Insn) (k unit : ℕ) → length program ≤ k → Passed program k unit → IsWellShaped program
all_passed program k unit all passed fault has =
    let end = ap unit_count (take_all k program all) in
    let stands = fault_stands program fault has in
    let e = stands.1 in
    let nothing = none_past program (flow_fault_unit fault) (omega (arith, end, passed.counted, passed.clear fault has)) in
    cc
