-- A safe program has an answer to each input that fits, whether it runs or not.
use Rattle.std.proofs.Common.{ℕ, zero, suc, ◌+◌, ◌≤◌, List, length, inl, inr, refl, ap, ◌∙◌, arith}
use Rattle.std.specs.Prelude.{option_and_then}
use Rattle.bpf_model.specs.declared.input.Input.{Input}
use Rattle.bpf_model.specs.declared.input.Sizes.{Sizes}
use Rattle.bpf_model.specs.declared.input.Answer.{Answer}
use Rattle.bpf_model.specs.declared.instruction.Insn.{Insn}
use Rattle.bpf_model.specs.State.{State, entry_state}
use Rattle.bpf_model.specs.Meaning.{step, ending, Reaches, Means, IsSafe}
use Rattle.bpf_model.specs.Fits.{Fits, HasInputBytes}
use Rattle.bpf_model.proofs.Options.{value_there}

module _ (program : List Insn) (sizes : Sizes) (input : Input) (safe : IsSafe program sizes) (bytes : HasInputBytes input) (fits : Fits input sizes) where
  -- from a state that is reached, with this many instructions at most to go
  answer_from : (left n : ℕ) (s : State) → Reaches program sizes input n s → length program ≤ n + left → (answer : Answer) × Means program sizes input answer
  answer_from zero n s reached most = absurd (let ends = safe.ends input bytes fits n s reached in omega (arith, ends, most))
  answer_from (suc left) n s reached most = elim (safe.goes_on input bytes fits n s reached) [
    | inl h ↦ let v = value_there (ending program sizes s) h in (v.0, (n, (s, (reached, v.1))))
    | inr h ↦ let v = value_there (step program sizes s) h in answer_from left (suc n) v.0 (ap (option_and_then (step program sizes)) reached ∙ v.1) (omega (arith, most))
  ]

  pub has_answer : (answer : Answer) × Means program sizes input answer
  has_answer = answer_from (length program) 0 (entry_state sizes input) refl (omega arith)
