-- If something holds of every path to a unit, a walk's state there knows it: at the walk's unit and at each one ahead.
use Rattle.std.proofs.Common.{◌≡◌, ◌≢◌, ℕ, ◌+◌, Bool, true, false, List, Option, Some, None, refl, inl, inr}
use Rattle.std.specs.Prelude.{if◌then◌else◌}
use Rattle.bpf_model.specs.declared.input.Sizes.{Sizes}
use Rattle.bpf_model.specs.declared.window.Window.{Window}
use Rattle.bpf_model.specs.declared.instruction.Insn.{Insn}
use Rattle.bpf_model.specs.Program.{units_of, instruction_at}
use Rattle.bpf_model.proofs.Options.{test_of}
use Rattle.verifier.specs.declared.abstract_state.AbstractState.{AbstractState}
use Rattle.verifier.specs.declared.walk.pending.Pending.{Pending}
use Rattle.verifier.specs.Instructions.{written_by}
use Rattle.verifier.specs.Describes.{goes_straight}
use Rattle.verifier.specs.Paths.{base_of, IsNextUnit}
use Rattle.verifier.specs.Plain.{IsPlain}
use Rattle.verifier.specs.Grants.{Grants, GrantsEntry, GrantsThere, GrantsAll}
use Rattle.verifier.specs.Walks.{kept_at, LeavesKnown, MeetsKnown, Sends, GoesFrom, SufficesThere}
use Rattle.verifier.proofs.ArriveLemmas.{same_or_other}
use Rattle.verifier.proofs.FloorLemmas.{join_grants, step_grants, narrow_grants}
use Rattle.verifier.proofs.PlainLemmas.{plain_suffices}

-- if two ways meet, the state knows what both know
meets_grants : (program : List Insn) (unit : ℕ) (one other met : Option AbstractState) → MeetsKnown one other met → GrantsThere program unit one → GrantsThere program unit other → GrantsThere program unit met
meets_grants program unit None other met m g h = rw m h
meets_grants program unit (Some a) None met m g h = rw m g
meets_grants program unit (Some a) (Some b) met m g h = rw m.1.0 (join_grants program unit a b m.0 g h m.1.1)

-- the state that an instruction leaves grants what holds at each unit that follows it
leaves_grants : (program : List Insn) (unit next : ℕ) (i : Insn) (a b : AbstractState) → ((w : Window) → written_by i ≢ Some (base_of w)) → instruction_at program unit ≡ Some i → IsNextUnit program unit next → Grants program unit a → LeavesKnown i a b → Grants program next b
leaves_grants program unit next i a b apart at follows g leaves =
    elim (test_of (goes_straight i)) [
      | inl on ↦ step_grants program unit next i a b apart at follows g (leaves.straight on)
      | inr jump ↦ narrow_grants program unit next i a b jump at follows g (leaves.narrowed jump)
    ]

-- so at the next instruction
next_grants : (program : List Insn) (unit : ℕ) (i : Insn) (before after : Pending) (a b : AbstractState) (on : Bool) → ((w : Window) → written_by i ≢ Some (base_of w)) → instruction_at program unit ≡ Some i → Grants program unit a → Sends i unit before a after on b → GrantsThere program (unit + units_of i) (if on then Some b else None)
next_grants program unit i before after a b true apart at g sends =
    let next = sends.next refl in
    leaves_grants program unit (unit + units_of i) i a b apart at (inl (i, (at, (next.0, refl)))) g next.1
next_grants program unit i before after a b false apart at g sends = tt

-- and at a jump's target
kept_grants : (program : List Insn) (unit other : ℕ) (i : Insn) (before after : Pending) (a b : AbstractState) (on : Bool) → ((w : Window) → written_by i ≢ Some (base_of w)) → instruction_at program unit ≡ Some i → Grants program unit a → Sends i unit before a after on b → GrantsThere program other (kept_at before other) → GrantsThere program other (kept_at after other)
kept_grants program unit other i before after a b on apart at g sends was =
    elim (sends.kept other) [
      | inl same ↦ rw same was
      | inr sent ↦
          let follows : IsNextUnit program unit other = inr (sent.distance, (rw at sent.jumps, sent.lands)) in
          meets_grants program other (kept_at before other) (Some sent.state) (kept_at after other) sent.meets was (leaves_grants program unit other i a sent.state apart at follows g sent.leaves)
    ]

-- past an instruction
pub visit_grants : (program : List Insn) (unit : ℕ) (i : Insn) (before after : Pending) (here later : Option AbstractState) → ((w : Window) → written_by i ≢ Some (base_of w)) → instruction_at program unit ≡ Some i → GoesFrom i unit before here after later → GrantsAll program unit here before → GrantsAll program (unit + units_of i) later after
visit_grants program unit i before after None later apart at sends g = record {
  now = rw sends.0 tt;
  kept = λ other. rw (sends.1 other) (g.kept other);
}
visit_grants program unit i before after (Some a) later apart at sends g =
    let on = sends.0 in
    let b = sends.1.0 in
    record {
      now = rw sends.1.1.0 (next_grants program unit i before after a b on apart at g.now sends.1.1.1);
      kept = λ other. kept_grants program unit other i before after a b on apart at g.now sends.1.1.1 (g.kept other);
    }

-- at a unit, when the state that was kept for it is joined
pub arrive_grants : (program : List Insn) (unit : ℕ) (here kept now : Option AbstractState) (before after : Pending) → kept ≡ kept_at before unit → kept_at after unit ≡ None → ((other : ℕ) → other ≢ unit → kept_at after other ≡ kept_at before other) → MeetsKnown here kept now → GrantsAll program unit here before → GrantsAll program unit now after
arrive_grants program unit here kept now before after is none others meets g = record {
  now = meets_grants program unit here kept now meets g.now (rw is (g.kept unit));
  kept = λ other. elim (same_or_other other unit) [
    | inl same ↦ rw (same, none) tt
    | inr apart ↦ rw (others other apart) (g.kept other)
  ];
}

-- at the beginning
pub start_grants : (program : List Insn) (a : AbstractState) (pending : Pending) → GrantsEntry a → ((other : ℕ) → kept_at pending other ≡ None) → GrantsAll program 0 (Some a) pending
start_grants program a pending entry none = record {
  now = entry program;
  kept = λ other. rw (none other) tt;
}

-- the state at a unit of a plain program is enough there
pub suffices_there : (program : List Insn) (sizes : Sizes) (unit : ℕ) (i : Insn) (here : Option AbstractState) → IsPlain program sizes → instruction_at program unit ≡ Some i → GrantsThere program unit here → SufficesThere sizes i here
suffices_there program sizes unit i None plain at g = tt
suffices_there program sizes unit i (Some a) plain at g = plain_suffices program sizes unit i a plain at g
