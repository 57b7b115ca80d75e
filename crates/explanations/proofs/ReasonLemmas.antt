-- What is told of the refused instruction, by what is known of it and of those before it.
use Rattle.std.proofs.Common.{◌≡◌, ◌⊎◌, ◌≤◌, List, [], ℕ, Some, Option, Result, Ok, Err, length, take, inl, inr, subst}
use Rattle.std.specs.Prelude.{slice_get, IfOk}
use Rattle.std.proofs.lemmas.List.{length-take-le}
use Rattle.bpf_model.specs.declared.input.Sizes.{Sizes}
use Rattle.bpf_model.specs.declared.instruction.Insn.{Insn}
use Rattle.bpf_model.specs.Program.{unit_count}
use Rattle.verifier.specs.declared.abstract_state.AbstractState.{AbstractState}
use Rattle.verifier.specs.declared.fault.VerifyFault.{VerifyFault}
use Rattle.verifier.specs.Faults.{verify_fault_unit}
use Rattle.verifier.specs.Walks.{KnowsRuns}
use Rattle.explanations.specs.Reasons.{IsReason, IsReasonAfter, IsKnownReason}
use Rattle.explanations.proofs.ListingLemmas.{described_at}

module _ (states : List (Option AbstractState)) (sizes : Sizes) (fault : VerifyFault) (insn : Insn) where
  -- by what is known of the instruction that comes after these
  pub told_after : {X E : Type 0} (bytes : X → List ℕ) (r : Result X E) (before : List Insn) (state : AbstractState)
      → slice_get states (length before) ≡ Some (Some state) → IfOk r (λ x. IsReason before states sizes fault insn state (bytes x))
      → IfOk r (λ x. (bytes x ≡ []) ⊎ IsReasonAfter before states sizes fault insn (bytes x))
  told_after bytes (Ok x) before state known told = inr record { state = state; here = known; told = told }
  told_after bytes (Err e) before state known told = tt

  module _ (program : List Insn) (index : ℕ) (inside : index ≤ length program) (unit : unit_count (take index program) ≡ verify_fault_unit fault)
      (known : KnowsRuns program states sizes) where
    tells : (text : List ℕ) → IsReasonAfter (take index program) states sizes fault insn text → IsKnownReason program sizes fault insn text
    tells text after =
        let here = subst (λ (k : ℕ). slice_get states k ≡ Some (Some after.state)) (length-take-le index program inside) after.here in
        inr record {
          states = states;
          known = known;
          index = index;
          at = unit;
          state = after.state;
          described = described_at program states sizes (verify_fault_unit fault) index after.state known here unit;
          told = after.told;
        }

    -- so of the program
    pub told_in : {X E : Type 0} (bytes : X → List ℕ) (r : Result X E) → IfOk r (λ x. (bytes x ≡ []) ⊎ IsReasonAfter (take index program) states sizes fault insn (bytes x))
        → IfOk r (λ x. IsKnownReason program sizes fault insn (bytes x))
    told_in bytes (Ok x) (inl none) = inl none
    told_in bytes (Ok x) (inr after) = tells (bytes x) after
    told_in bytes (Err e) told = tt
