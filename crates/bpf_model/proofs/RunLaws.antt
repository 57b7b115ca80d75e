-- A run that has ended goes no further, so a program has one answer.
use Rattle.std.proofs.Common.{◌≡◌, ℕ, zero, suc, ◌+◌, ◌-◌, ◌<◌, List, Option, Some, None, refl, sym, ap, ◌∙◌, arith, inl, inr}
use Rattle.std.specs.Prelude.{option_and_then}
use Rattle.std.proofs.lemmas.Bool.{cases_order}
use Rattle.bpf_model.specs.declared.input.Input.{Input}
use Rattle.bpf_model.specs.declared.input.Sizes.{Sizes}
use Rattle.bpf_model.specs.declared.input.Answer.{Answer}
use Rattle.bpf_model.specs.declared.instruction.Insn.{Insn}
use Rattle.bpf_model.specs.declared.instruction.Insn.TheVariants.{Exit}
use Rattle.bpf_model.specs.Program.{instruction_at}
use Rattle.bpf_model.specs.State.{State, entry_state}
use Rattle.bpf_model.specs.Step.{act, ends_in}
use Rattle.bpf_model.specs.Meaning.{step, ending, after, Means}
use Rattle.bpf_model.proofs.Options.{chain_some, some_is}

-- an instruction that ends a run does not act
ends_or_acts : (sizes : Sizes) (i : Insn) (s : State) (a : Answer) → ends_in sizes i s ≡ Some a → act sizes i s ≡ None
ends_or_acts sizes Exit s a e = refl
ends_or_acts sizes i s a e = absurd cc

-- an end has no next state
end_stops : (program : List Insn) (sizes : Sizes) (s : State) (a : Answer) → ending program sizes s ≡ Some a → step program sizes s ≡ None
unfolding step ending
end_stops program sizes s a e =
    let x = chain_some (λ i. ends_in sizes i s) (instruction_at program s.unit) a e in
    ap (λ (o : Option Insn). option_and_then (λ i. act sizes i s) o) x.1 ∙ ends_or_acts sizes x.0 s a x.2

-- after a state without a next one there are no more states
none_after : (program : List Insn) (sizes : Sizes) (n k : ℕ) (s t : State) → after program sizes n s ≡ Some t → step program sizes t ≡ None → after program sizes (suc (k + n)) s ≡ None
none_after program sizes n zero s t e stop =
    let here : 0 + n ≡ n = omega arith in
    rw here (ap (option_and_then (step program sizes)) e ∙ stop)
none_after program sizes n (suc k) s t e stop =
    let later : suc k + n ≡ suc (k + n) = omega arith in
    rw later (ap (option_and_then (step program sizes)) (none_after program sizes n k s t e stop))

-- a run that has ended reaches nothing later
ended_before : (program : List Insn) (sizes : Sizes) (n m : ℕ) (s t u : State) (a : Answer) → n < m → after program sizes n s ≡ Some t → ending program sizes t ≡ Some a → after program sizes m s ≡ Some u → ⊥
ended_before program sizes n m s t u a h e ends later =
    let k = m - suc n in
    let is : m ≡ suc (k + n) = omega (arith, h) in
    let none : after program sizes m s ≡ None = ap (λ (j : ℕ). after program sizes j s) is ∙ none_after program sizes n k s t e (end_stops program sizes t a ends) in
    let both : Some u ≡ None = sym later ∙ none in
    absurd cc

-- a program gives one answer to an input
pub one_answer : (program : List Insn) (sizes : Sizes) (input : Input) (a b : Answer) → Means program sizes input a → Means program sizes input b → a ≡ b
one_answer program sizes input a b (n, (t, (e, ends))) (m, (u, (f, stops))) =
    elim (cases_order n m) [
      | inl same ↦
          let again : after program sizes n (entry_state sizes input) ≡ Some u = ap (λ (j : ℕ). after program sizes j (entry_state sizes input)) same ∙ f in
          let state : t ≡ u = some_is t u (sym e ∙ again) in
          some_is a b (sym ends ∙ ap (ending program sizes) state ∙ stops)
      | inr (inl less) ↦ absurd (ended_before program sizes n m (entry_state sizes input) t u a less e ends f)
      | inr (inr more) ↦ absurd (ended_before program sizes m n (entry_state sizes input) u t b more f stops e)
    ]
