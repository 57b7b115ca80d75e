-- A unit of a plain program: if something holds of every path to it, the abstract state knows it. This verifier's own.
use Rattle.std.specs.Prelude.{◌≡◌, ◌≢◌, ℕ, ◌+◌, true, List, [], ◌∷◌, Option, Some, None, ℤ, pos}
use Rattle.bpf_model.specs.declared.window.Window.{Window}
use Rattle.bpf_model.specs.declared.instruction.Insn.{Insn}
use Rattle.stack_slots.specs.declared.reg_value.RegValue.TheVariants.{Unwritten}
use Rattle.stack_slots.specs.Offsets.{AreInReach}
use Rattle.stack_slots.specs.Values.{IsPointerIn, IsNumberIn}
use Rattle.stack_slots.specs.Frames.{is_written, NoneUnwritten}
use Rattle.verifier.specs.declared.abstract_state.AbstractState.{AbstractState}
use Rattle.verifier.specs.declared.walk.pending.Pending.{Pending}
use Rattle.verifier.specs.Joins.{register}
use Rattle.verifier.specs.Paths.{base_of, base_offset, IsPathTo, OnEveryPath, WasWritten, WasStored, EndsIn}
use Rattle.verifier.specs.Plain.{copy_of, mask_of, addition_of, constant_of}
use Rattle.verifier.specs.Walks.{kept_at}

-- the register points into the window, at or up to this many bytes after the place where the window's register points at
-- entry
abbrev pub PointsPast : Window → ℕ → AbstractState → ℕ → Type 0
PointsPast w further a r = IsPointerIn w (pos (base_offset w)) (pos (base_offset w + further)) (register a r)

-- a path leads to the unit, and the state knows what holds of every such path
pub record Grants (program : List Insn) (unit : ℕ) (a : AbstractState) : Type 0 where
  pub reached : (before : List ℕ) × IsPathTo program before unit
  -- the windows' registers point where they did at entry
  pub bases : (w : Window) → PointsPast w 0 a (base_of w)
  -- a register that was written has a value, and so has each spilled one
  pub written : (r : ℕ) → OnEveryPath program unit (WasWritten program r) → register a r ≢ Unwritten
  pub spills : NoneUnwritten a.frame
  -- if a byte was stored, the state knows that it was written
  pub stored : (w : Window) (j : ℕ) → OnEveryPath program unit (WasStored program w j) → is_written a.frame w j ≡ true
  -- a copy of a window's register points where that register does; masking a number bounds it; their sum points into
  -- the window
  pub copied : (d : ℕ) (w : Window) → OnEveryPath program unit (EndsIn program (copy_of d w ∷ [])) → PointsPast w 0 a d
  pub masked : (d x m : ℕ) (w : Window) → d ≢ x → OnEveryPath program unit (EndsIn program (mask_of x m ∷ copy_of d w ∷ []))
      → PointsPast w 0 a d × IsNumberIn (pos 0) (pos m) (register a x)
  pub added : (d x m : ℕ) (w : Window) → d ≢ x → AreInReach (pos (base_offset w)) (pos (base_offset w + m))
      → OnEveryPath program unit (EndsIn program (addition_of d x ∷ mask_of x m ∷ copy_of d w ∷ [])) → PointsPast w m a d
  -- a constant in r0
  pub answer : (c : ℤ) → OnEveryPath program unit (EndsIn program (constant_of c ∷ [])) → IsNumberIn c c (register a 0)

-- this holds at unit 0, whatever the program
abbrev pub GrantsEntry : AbstractState → Type 0
GrantsEntry a = (program : List Insn) → Grants program 0 a

-- if there is a state at the unit, it knows what holds of every path there
abbrev pub GrantsThere : List Insn → ℕ → Option AbstractState → Type 0
GrantsThere program unit None = Unit {0}
GrantsThere program unit (Some a) = Grants program unit a

-- this holds at the unit to which a walk came, and at each one ahead
pub record GrantsAll (program : List Insn) (unit : ℕ) (here : Option AbstractState) (pending : Pending) : Type 0 where
  pub now : GrantsThere program unit here
  pub kept : (other : ℕ) → GrantsThere program other (kept_at pending other)
