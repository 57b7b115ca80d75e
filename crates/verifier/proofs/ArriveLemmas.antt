-- A walk that arrives at a unit, and lists of states that grow.
use Rattle.std.proofs.Common.{◌≡◌, ◌≢◌, ℕ, zero, suc, ◌+◌, ◌<◌, ◌⊎◌, Bool, true, false, List, [], ◌∷◌, ◌++◌, length, Option, Some, None, get_or, refl, sym, subst, inl, inr, arith}
use Rattle.std.specs.Prelude.{if◌then◌else◌, slice_set}
use Rattle.std.specs.Global.{Box}
use Rattle.std.proofs.lemmas.List.{get_or-set_same, get_or-set_other}
use Rattle.bpf_model.specs.declared.input.Sizes.{Sizes}
use Rattle.bpf_model.specs.declared.instruction.Insn.{Insn}
use Rattle.bpf_model.specs.Program.{IsProgram, units_of, instruction_at}
use Rattle.bpf_model.specs.State.{State}
use Rattle.flow_shape.specs.FlowShape.{IsForward}
use Rattle.bpf_model.specs.declared.window.Window.{Window}
use Rattle.bound_operations.specs.declared.operation.Operation.{Operation}
use Rattle.bound_operations.specs.Binding.{Binds, LeadsTo}
use Rattle.verifier.specs.declared.abstract_state.AbstractState.{AbstractState}
use Rattle.verifier.specs.declared.walk.pending.Pending.{Pending}
use Rattle.verifier.specs.Describes.{Describes}
use Rattle.verifier.specs.Windows.{LiesIn}
use Rattle.verifier.specs.Walks.{boxed, kept_at, IsDescribed, IncludesSome, IsKnown, Advances, Visits}
use Rattle.verifier.proofs.WalkLemmas.{LeadsOrEnds, Walked, walked_on}

-- if you add defaults at a list's end, it reads as before
pub get_or-longer : {A : Type 0} → (xs : List A) (d : A) (i : ℕ) → get_or (xs ++ (d ∷ [])) i d ≡ get_or xs i d
get_or-longer [] d zero = refl
get_or-longer [] d (suc i) = refl
get_or-longer (x ∷ xs) d zero = refl
get_or-longer (x ∷ xs) d (suc i) = get_or-longer xs d i

pub same_or_other : (n m : ℕ) → (n ≡ m) ⊎ (n ≢ m)
same_or_other n m = grind arith

-- a state that is known when a walk comes to a unit stays known after the state that was kept for the unit is joined
pub arrived : (sizes : Sizes) (unit : ℕ) (here kept now : Option AbstractState) (before after : Pending) → kept ≡ kept_at before unit → ((other : ℕ) → other ≢ unit → kept_at after other ≡ kept_at before other) → IncludesSome here now → IncludesSome kept now → (s : State) → IsKnown unit here before sizes s → IsKnown unit now after sizes s
arrived sizes unit here kept now before after is others first second s (inl at) = inl (at.0, first sizes s at.1)
arrived sizes unit here kept now before after is others first second s (inr at) =
    elim (same_or_other s.unit unit) [
      | inl same ↦
          let there : IsDescribed (kept_at before unit) sizes s = subst (λ (u : ℕ). IsDescribed (kept_at before u) sizes s) same at in
          inl (same, second sizes s (subst (λ (o : Option AbstractState). IsDescribed o sizes s) (sym is) there))
      | inr apart ↦ inr (subst (λ (o : Option AbstractState). IsDescribed o sizes s) (sym (others s.unit apart)) at)
    ]

-- if a run comes to a unit and nothing is kept for it, the abstract state there describes the run's state
pub known_here : (sizes : Sizes) (unit : ℕ) (here : Option AbstractState) (before : Pending) → kept_at before unit ≡ None → (s : State) → s.unit ≡ unit → IsKnown unit here before sizes s → IsDescribed here sizes s
known_here sizes unit here before none s same (inl at) = at.1
known_here sizes unit here before none s same (inr at) =
    let there : IsDescribed (kept_at before unit) sizes s = subst (λ (u : ℕ). IsDescribed (kept_at before u) sizes s) same at in
    absurd (subst (λ (o : Option AbstractState). IsDescribed o sizes s) none there)

-- states at units ahead stay known
pub stays_known : (sizes : Sizes) (unit next : ℕ) (here later : Option AbstractState) (before after : Pending) → ((other : ℕ) → IncludesSome (kept_at before other) (kept_at after other)) → (s : State) → unit < s.unit → IsKnown unit here before sizes s → IsKnown next later after sizes s
stays_known sizes unit next here later before after keeps s ahead (inl at) = absurd (omega (arith, ahead, at.0))
stays_known sizes unit next here later before after keeps s ahead (inr at) = inr (keeps s.unit sizes s at)

-- an entry is replaced by one that describes at least as much
pub set_keeps : (sizes : Sizes) (s : State) (items : List (Option (Box AbstractState))) (unit other : ℕ) (kept new : Box AbstractState) → unit < length items → get_or items unit None ≡ Some kept → (Describes kept.value sizes s → Describes new.value sizes s) → IsDescribed (boxed (get_or items other None)) sizes s → IsDescribed (boxed (get_or (slice_set items unit (Some new)) other None)) sizes s
set_keeps sizes s items unit other kept new within is more h =
    elim (same_or_other other unit) [
      | inl same ↦
          let here = subst (λ (u : ℕ). IsDescribed (boxed (get_or items u None)) sizes s) same h in
          let there = more (subst (λ (o : Option (Box AbstractState)). IsDescribed (boxed o) sizes s) is here) in
          subst (λ (u : ℕ). IsDescribed (boxed (get_or (slice_set items unit (Some new)) u None)) sizes s) (sym same) (rw (get_or-set_same items unit (Some new) None within) there)
      | inr apart ↦ rw (get_or-set_other items unit other (Some new) None apart) h
    ]

-- past an instruction
pub walk_visits : (program : List Insn) (sizes : Sizes) (unit : ℕ) (i : Insn) (here later : Option AbstractState) (before after : Pending) (operation : Operation) → IsProgram program → IsForward program → instruction_at program unit ≡ Some i → kept_at before unit ≡ None → Visits program sizes i unit before here after later operation → Walked program sizes unit (IsKnown unit here before sizes) → Walked program sizes (unit + units_of i) (IsKnown (unit + units_of i) later after sizes)
walk_visits program sizes unit i here later before after operation is forward at none visits walked =
    walked_on program sizes unit i (IsKnown unit here before sizes) (IsKnown (unit + units_of i) later after sizes) is forward at walked leads (stays_known sizes unit (unit + units_of i) here later before after visits.keeps)
  where
    leads : (s : State) → s.unit ≡ unit → IsKnown unit here before sizes s → LeadsOrEnds sizes i s (IsKnown (unit + units_of i) later after sizes)
    leads s same known = record {
      leads = elim (visits.leads s same (known_here sizes unit here before none s same known)) [ inl ends ↦ inl ends | inr on ↦ inr (on.next, (on.acts, on.known)) ];
    }

-- if an instruction has no abstract state, no run comes to it
pub visits_none : (program : List Insn) (sizes : Sizes) (i : Insn) (unit : ℕ) (before : Pending) (operation : Operation) → Visits program sizes i unit before None before None operation
visits_none program sizes i unit before operation = record {
  leads = λ s same d. absurd d;
  keeps = λ other sizes s kept. kept;
  bound = λ s same d. absurd d;
}

-- a walk goes past an instruction and binds it, to the window of its access and the index of its target
pub visits_some : (program : List Insn) (sizes : Sizes) (i : Insn) (unit : ℕ) (before after : Pending) (a b : AbstractState) (on : Bool) (later : Option AbstractState) (window : Window) (target : ℕ) (operation : Operation) → Advances sizes i unit before a after on b → later ≡ (if on then Some b else None) → LiesIn sizes i a window → LeadsTo program i unit target → Binds operation i window target → Visits program sizes i unit before (Some a) after later operation
visits_some program sizes i unit before after a b on later window target operation passes is lies leads binds = record {
  leads = rw is passes.leads;
  keeps = passes.keeps;
  bound = λ s same d. record {
    window = window;
    target = target;
    binds = binds;
    inside = lies.inside s d;
    leads = subst (λ (u : ℕ). LeadsTo program i u target) (sym same) leads;
  };
}

-- the state after an instruction, if the run goes on at the next one
pub state_after : (on : Bool) (o : Option AbstractState) (b : AbstractState) → ((on ≡ false) × (o ≡ None)) ⊎ ((on ≡ true) × (o ≡ Some b)) → o ≡ (if on then Some b else None)
state_after on o b (inl h) = rw h.0 h.1
state_after on o b (inr h) = rw h.0 h.1
