-- Why no program is admitted by the limits of any program.
use Rattle.std.proofs.Common.{◌≡◌, ◌%◌, ◌/◌, ℕ, inl, inr, List, length, true, false, Some, refl, arith}
use Rattle.std.specs.Prelude.{nat_eq, nat_lt}
use Rattle.std.proofs.lemmas.Bool.Decides.{nat_tests}
use Rattle.bpf_model.specs.declared.limits.TheConstants.{PROGRAM_UNITS}
use Rattle.bpf_model.specs.declared.input.Sizes.{Sizes}
use Rattle.bpf_model.specs.Fits.{AreWithinLimits}
use Rattle.bpf_decode.specs.Faults.{length_fault}
use Rattle.bpf_decode.specs.declared.fault.DecodeFault.TheVariants.{TooManyUnits}
use Rattle.admission.specs.declared.fault.AdmissionFault.{AdmissionFault}
use Rattle.admission.specs.declared.fault.AdmissionFault.TheVariants.{Decode, Flow, Verify}
use Rattle.admission.specs.Admissions.{greatest, HasManyUnits, HasLargeWindow, IsNotAdmitted}
use Rattle.map_commands.specs.Commands.{IsUnverified}

-- more units than any program has are a fault of the decoder
many_units : (bytes : List ℕ) → HasManyUnits greatest bytes → length_fault bytes ≡ Some TooManyUnits
many_units bytes (whole, many) =
    let some : nat_eq (length bytes) 0 ≡ false = grind (arith, nat_tests) in
    let units : nat_eq (length bytes % 8) 0 ≡ true = grind (arith, nat_tests) in
    let above : nat_lt PROGRAM_UNITS (length bytes / 8) ≡ true = grind (arith, nat_tests) in
    rw (some, units, above) refl

-- a size above the limits is not within them
large_window : (sizes : Sizes) → HasLargeWindow greatest sizes → AreWithinLimits sizes → ⊥
large_window sizes (inl large) within = omega (arith, large, within.key)
large_window sizes (inr (inl large)) within = omega (arith, large, within.old)
large_window sizes (inr (inr (inl large))) within = omega (arith, large, within.arg)
large_window sizes (inr (inr (inr large))) within = omega (arith, large, within.result)

-- it is the first of three steps that refuses
pub unverified : (bytes : List ℕ) (sizes : Sizes) (fault : AdmissionFault) → IsNotAdmitted greatest bytes sizes fault → IsUnverified bytes sizes fault
unverified bytes sizes (Decode fault) (inl (many, is)) = rw is (inr (inl (many_units bytes many)))
unverified bytes sizes (Decode fault) (inr (few, first)) = first
unverified bytes sizes (Flow fault) (few, first) = first
unverified bytes sizes (Verify fault) (few, (program, spelled, shaped, inside, limits, plain)) =
    (program, spelled, shaped, inside, limits, λ p. elim (plain p) [ inl is ↦ is | inr large ↦ absurd (large_window sizes large p.limits) ])
