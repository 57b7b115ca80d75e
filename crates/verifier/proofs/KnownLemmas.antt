-- The list with the abstract state at each instruction that a walk comes to.
use Rattle.std.proofs.Common.{◌≡◌, ℕ, zero, suc, ◌⊎◌, List, [], ◌∷◌, ◌++◌, length, take, Option, Some, None, refl, sym, ap, subst, ◌∙◌, inl, inr, arith}
use Rattle.std.specs.Prelude.{slice_get}
use Rattle.bpf_model.specs.declared.input.Sizes.{Sizes}
use Rattle.bpf_model.specs.declared.instruction.Insn.{Insn}
use Rattle.bpf_model.specs.Program.{IsProgram, unit_count, instruction_at}
use Rattle.bpf_model.proofs.Options.{some_is}
use Rattle.bpf_model.proofs.ProgramLemmas.{units_of-some, starts_at}
use Rattle.flow_shape.specs.FlowShape.{IsForward}
use Rattle.verifier.specs.declared.abstract_state.AbstractState.{AbstractState}
use Rattle.verifier.specs.declared.walk.pending.Pending.{Pending}
use Rattle.verifier.specs.Walks.{kept_at, IsDescribed, IsKnown, KnowsRuns}
use Rattle.verifier.proofs.WalkLemmas.{Walked, comes_here}
use Rattle.verifier.proofs.ArriveLemmas.{known_here}

-- an element of a list with one more is that one, or was there before
get_more : {A : Type 0} → (xs : List A) (y x : A) (k : ℕ) → slice_get (xs ++ (y ∷ [])) k ≡ Some x → (slice_get xs k ≡ Some x) ⊎ ((k ≡ length xs) × (y ≡ x))
get_more [] y x zero e = inr (refl, some_is y x e)
get_more [] y x (suc k) e = absurd cc
get_more (z ∷ xs) y x zero e = inl e
get_more (z ∷ xs) y x (suc k) e = elim (get_more xs y x k e) [ inl h ↦ inl h | inr h ↦ inr (ap suc h.0, h.1) ]

pub none_known : (program : List Insn) (sizes : Sizes) → KnowsRuns program [] sizes
none_known program sizes = λ input bytes fits n s reaches index known listed at. absurd (let wrong = listed in cc)

-- the state at the next instruction is added to the list
pub knows_more : (program : List Insn) (sizes : Sizes) (unit k : ℕ) (i : Insn) (here : Option AbstractState) (pending : Pending) (states : List (Option AbstractState)) → IsProgram program → IsForward program → slice_get program k ≡ Some i → unit ≡ unit_count (take k program) → length states ≡ k → kept_at pending unit ≡ None → Walked program sizes unit (IsKnown unit here pending sizes) → KnowsRuns program states sizes → KnowsRuns program (states ++ (here ∷ [])) sizes
knows_more program sizes unit k i here pending states is forward at counted listed empty walked knows = λ input bytes fits n s reaches index known stands unit_is.
    elim (get_more states here known index stands) [
      | inl before ↦ knows input bytes fits n s reaches index known before unit_is
      | inr last ↦
          let starts : instruction_at program unit ≡ Some i = ap (instruction_at program) counted ∙ starts_at program k i at in
          let same : s.unit ≡ unit = unit_is ∙ ap (λ (j : ℕ). unit_count (take j program)) (last.0 ∙ listed) ∙ sym counted in
          let h = comes_here program sizes unit i (IsKnown unit here pending sizes) is forward starts walked input bytes fits n s reaches (omega (arith, same)) (omega (arith, same, units_of-some i)) in
          subst (λ (o : Option AbstractState). IsDescribed o sizes s) last.1 (known_here sizes unit here pending empty s same h.1)
    ]
