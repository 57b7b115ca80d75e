-- The facts that a walk has about the runs that come to a unit, and about those that jump to units ahead. This
-- verifier's own.
use Rattle.std.specs.Prelude.{◌≡◌, ℕ, ◌+◌, Bool, true, false, ◌⊎◌, List, Option, Some, None, IsSome, take, slice_get, slice_index_or, ℤ, pos, ◌≤ℤ◌, if◌then◌else◌}
use Rattle.std.specs.Global.{Box}
use Rattle.bpf_model.specs.declared.input.Sizes.{Sizes}
use Rattle.bpf_model.specs.declared.instruction.Insn.{Insn}
use Rattle.bpf_model.specs.declared.input.Input.{Input}
use Rattle.bpf_model.specs.Fits.{Fits, HasInputBytes}
use Rattle.bpf_model.specs.Meaning.{Reaches}
use Rattle.bpf_model.specs.Program.{units_of, unit_count}
use Rattle.bpf_model.specs.State.{State}
use Rattle.bpf_model.specs.Step.{act, ends_in, unit_of}
use Rattle.flow_shape.specs.Jumps.{distance_of, falls_through, target_of}
use Rattle.bound_operations.specs.declared.operation.Operation.{Operation}
use Rattle.bound_operations.specs.Binding.{IsBound}
use Rattle.verifier.specs.declared.abstract_state.AbstractState.{AbstractState}
use Rattle.verifier.specs.declared.walk.pending.Pending.{Pending}
use Rattle.verifier.specs.Describes.{Describes, goes_straight}
use Rattle.verifier.specs.Joins.{KeepsCommon}
use Rattle.verifier.specs.Changes.{Changes, OnlyNarrows, Suffices}

-- a boxed state
abbrev pub boxed : Option (Box AbstractState) → Option AbstractState
boxed None = None
boxed (Some b) = Some b.value

-- the state that is kept for a unit
abbrev pub kept_at : Pending → ℕ → Option AbstractState
kept_at p unit = boxed (slice_index_or p.states.items unit None)

-- there is an abstract state, and it describes the state
abbrev pub IsDescribed : Option AbstractState → Sizes → State → Type 0
IsDescribed None sizes s = ⊥
IsDescribed (Some a) sizes s = Describes a sizes s

-- if the first describes a state, so does the second
abbrev pub IncludesSome : Option AbstractState → Option AbstractState → Type 0
IncludesSome o p = (sizes : Sizes) (s : State) → IsDescribed o sizes s → IsDescribed p sizes s

-- a state at the walk's unit is described by the abstract state there; one at a unit ahead, by the state that is kept
-- for it
abbrev pub IsKnown : ℕ → Option AbstractState → Pending → Sizes → State → Type 0
IsKnown unit here pending sizes s = ((s.unit ≡ unit) × IsDescribed here sizes s) ⊎ IsDescribed (kept_at pending s.unit) sizes s

-- a jump goes forward
abbrev pub GoesForward : Insn → Type 0
GoesForward i = (distance : ℤ) → distance_of i ≡ Some distance → pos 0 ≤ℤ distance

-- the instruction leads to a known state
pub record LeadsToKnown (sizes : Sizes) (i : Insn) (s : State) (unit : ℕ) (here : Option AbstractState) (pending : Pending) : Type 0 where
  pub next : State
  pub acts : act sizes i s ≡ Some next
  pub known : IsKnown unit here pending sizes next

-- from each described state at the unit the instruction ends the run or leads to a known one; each kept state still
-- describes what it described
pub record Advances (sizes : Sizes) (i : Insn) (unit : ℕ) (before : Pending) (a : AbstractState) (after : Pending) (on : Bool) (b : AbstractState) : Type 0 where
  pub leads : (s : State) → s.unit ≡ unit → Describes a sizes s
      → IsSome (ends_in sizes i s) ⊎ LeadsToKnown sizes i s (unit + units_of i) (if on then Some b else None) after
  pub keeps : (other : ℕ) → IncludesSome (kept_at before other) (kept_at after other)

-- the same for an instruction that a run may not come to, and in each described state the operation binds the
-- instruction
pub record Visits (program : List Insn) (sizes : Sizes) (i : Insn) (unit : ℕ) (before : Pending) (here : Option AbstractState) (after : Pending) (later : Option AbstractState) (operation : Operation) : Type 0 where
  pub leads : (s : State) → s.unit ≡ unit → IsDescribed here sizes s
      → IsSome (ends_in sizes i s) ⊎ LeadsToKnown sizes i s (unit + units_of i) later after
  pub keeps : (other : ℕ) → IncludesSome (kept_at before other) (kept_at after other)
  pub bound : (s : State) → s.unit ≡ unit → IsDescribed here sizes s → IsBound program sizes operation i s

-- the abstract state after an instruction, on each way that goes on; a jump's condition only narrows it
pub record LeavesKnown (i : Insn) (a b : AbstractState) : Type 0 where
  pub straight : goes_straight i ≡ true → Changes i a b
  pub narrowed : goes_straight i ≡ false → OnlyNarrows a b

-- the abstract state where one of two ways comes, or both; if both come, it keeps the facts that both have
abbrev pub MeetsKnown : Option AbstractState → Option AbstractState → Option AbstractState → Type 0
MeetsKnown None other c = c ≡ other
MeetsKnown (Some a) None c = c ≡ Some a
MeetsKnown (Some a) (Some b) c = (known : AbstractState) × ((c ≡ Some known) × KeepsCommon a b known)

-- the instruction jumps to the target, and the state that it leaves there meets the one that was kept for it
pub record SendsTo (i : Insn) (unit : ℕ) (a : AbstractState) (target : ℕ) (before after : Option AbstractState) : Type 0 where
  pub distance : ℤ
  pub jumps : distance_of i ≡ Some distance
  pub lands : unit_of (target_of unit distance) ≡ Some target
  pub state : AbstractState
  pub leaves : LeavesKnown i a state
  pub meets : MeetsKnown before (Some state) after

-- each state that goes on, to the next instruction or to a target, is one that the instruction leaves
pub record Sends (i : Insn) (unit : ℕ) (before : Pending) (a : AbstractState) (after : Pending) (on : Bool) (b : AbstractState) : Type 0 where
  pub next : on ≡ true → (falls_through i ≡ true) × LeavesKnown i a b
  pub kept : (target : ℕ) → (kept_at after target ≡ kept_at before target) ⊎ SendsTo i unit a target (kept_at before target) (kept_at after target)

-- the same from a unit that may have a state; if it has none, nothing goes on
abbrev pub GoesFrom : Insn → ℕ → Pending → Option AbstractState → Pending → Option AbstractState → Type 0
GoesFrom i unit before None after later = (later ≡ None) × ((other : ℕ) → kept_at after other ≡ kept_at before other)
GoesFrom i unit before (Some a) after later =
    (on : Bool) × ((b : AbstractState) × ((later ≡ (if on then Some b else None)) × Sends i unit before a after on b))

-- if there is a state at the unit, it is enough for the instruction to be accepted
abbrev pub SufficesThere : Sizes → Insn → Option AbstractState → Type 0
SufficesThere sizes i None = Unit {0}
SufficesThere sizes i (Some a) = Suffices sizes i a

-- the list's entry for the instruction at this state's unit describes the state
abbrev pub IsListed : List Insn → List (Option AbstractState) → Sizes → State → Type 0
IsListed program states sizes s =
    (index : ℕ) (known : Option AbstractState) → slice_get states index ≡ Some known → s.unit ≡ unit_count (take index program) → IsDescribed known sizes s

-- this holds in each state that a run comes to, on each input that fits
abbrev pub KnowsRuns : List Insn → List (Option AbstractState) → Sizes → Type 0
KnowsRuns program states sizes =
    (input : Input) → HasInputBytes input → Fits input sizes
    → (n : ℕ) (s : State) → Reaches program sizes input n s → IsListed program states sizes s
