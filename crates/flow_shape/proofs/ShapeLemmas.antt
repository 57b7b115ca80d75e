-- In a well-shaped program jumps go forward and land, and no run leaves it.
use Rattle.std.proofs.Common.{◌≡◌, ℕ, ◌+◌, ◌<◌, ◌⊎◌, true, List, Option, Some, None, refl, ap, ◌∙◌, inl, inr, arith, rules, ℤ, pos, negsuc, ◌≤ℤ◌}
use Rattle.std.specs.Prelude.{IsSome, option_and_then}
use Rattle.std.proofs.lemmas.Bool.{cases_order}
use Rattle.bpf_model.specs.declared.instruction.Insn.{Insn}
use Rattle.bpf_model.specs.Program.{units_of, unit_count, instruction_at}
use Rattle.bpf_model.proofs.Options.{is_there}
use Rattle.bpf_model.proofs.ProgramLemmas.{ends_inside, next_starts}
use Rattle.flow_shape.specs.declared.fault.FlowFault.TheVariants.{BackwardJump, JumpOut, JumpIntoWide, FallsOffEnd}
use Rattle.flow_shape.specs.Jumps.{distance_of, falls_through, JumpsBy}
use Rattle.flow_shape.specs.FlowShape.{IsWellShaped, Lands, IsForward}

-- no instruction starts at the unit, or one does
which_start : (o : Option Insn) → (o ≡ None) ⊎ IsSome o
which_start None = inl refl
which_start (Some i) = inr (is_there (Some i) i refl)

-- a jump lands if the program has no fault
pub jump_lands : (program : List Insn) (unit : ℕ) (d : ℤ) → IsWellShaped program → JumpsBy program unit d → (pos 0 ≤ℤ d) × Lands program unit d
jump_lands program unit (negsuc n) shaped jumps = absurd (shaped (BackwardJump unit) (negsuc n, (jumps, search rules)))
jump_lands program unit (pos n) shaped jumps = (
  search rules,
  record {
    target = unit + 1 + n;
    aims = refl;
    forward = omega arith;
    starts = starts;
  },
)
  where
    inside : unit + 1 + n < unit_count program
    inside = elim (cases_order (unit + 1 + n) (unit_count program)) [
      | inl end ↦ absurd (shaped (JumpOut unit) (pos n, (jumps, grind (arith, end))))
      | inr apart ↦ elim apart [
        | inl within ↦ within
        | inr past ↦ absurd (shaped (JumpOut unit) (pos n, (jumps, grind (arith, past))))
      ]
    ]

    starts : IsSome (instruction_at program (unit + 1 + n))
    starts = elim (which_start (instruction_at program (unit + 1 + n))) [
      | inl none ↦ absurd (shaped (JumpIntoWide unit) (record { distance = pos n; target = unit + 1 + n; jumps = jumps; aims = refl; half = (inside, none) }))
      | inr there ↦ there
    ]

-- after an instruction that a run may pass, the next one starts
pub passes_on : (program : List Insn) (unit : ℕ) (i : Insn) → IsWellShaped program → instruction_at program unit ≡ Some i → falls_through i ≡ true → IsSome (instruction_at program (unit + units_of i))
passes_on program unit i shaped at goes_on =
    elim (cases_order (unit + units_of i) (unit_count program)) [
      | inl last ↦ absurd (shaped (FallsOffEnd unit) (record { instruction = i; at = at; last = last; goes_on = goes_on }))
      | inr apart ↦ elim apart [
        | inl inside ↦ let next = next_starts program unit i at inside in is_there (instruction_at program (unit + units_of i)) next.0 next.1
        | inr past ↦ absurd (omega (arith, past, ends_inside program unit i at))
      ]
    ]

-- so it goes forward
pub shaped_forward : (program : List Insn) → IsWellShaped program → IsForward program
shaped_forward program shaped = record {
  lands = λ unit d. jump_lands program unit d shaped;
  goes_on = λ unit i. passes_on program unit i shaped;
}

-- the jump at a unit of such a program lands
pub jump_goes : (program : List Insn) (unit : ℕ) (i : Insn) (d : ℤ) → IsForward program → instruction_at program unit ≡ Some i → distance_of i ≡ Some d → Lands program unit d
jump_goes program unit i d forward at is = (forward.lands unit d (ap (λ (o : Option Insn). option_and_then distance_of o) at ∙ is)).1
