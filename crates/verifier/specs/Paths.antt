-- The paths of a program's text, and what they write. Our profile of RFC 9669.
use Rattle.std.specs.Prelude.{◌≡◌, ◌≢◌, ℕ, ◌+◌, ◌<◌, ◌≤◌, true, ◌⊎◌, List, [], ◌∷◌, Some, ℤ, pos, ◌+ℤ◌}
use Rattle.bpf_model.specs.declared.limits.TheConstants.{STACK_BYTES}
use Rattle.bpf_model.specs.declared.window.Window.{Window}
use Rattle.bpf_model.specs.declared.window.Window.TheVariants.{Key, Old, Arg, Result, Stack}
use Rattle.bpf_model.specs.declared.instruction.Insn.{Insn}
use Rattle.bpf_model.specs.Program.{units_of, instruction_at}
use Rattle.bpf_model.specs.Step.{unit_of}
use Rattle.flow_shape.specs.Jumps.{falls_through, target_of, JumpsBy}
use Rattle.verifier.specs.Instructions.{written_by, Touch, store_of}

-- the register that points into a window at entry, and how far after the window's first byte it points
abbrev pub base_of : Window → ℕ
base_of Key = 1
base_of Old = 2
base_of Arg = 3
base_of Result = 4
base_of Stack = 10

abbrev pub base_offset : Window → ℕ
base_offset Key = 0
base_offset Old = 0
base_offset Arg = 0
base_offset Result = 0
base_offset Stack = STACK_BYTES

-- the registers that have a value at entry: all but r0, r5 and r9
pub record HasValueAtEntry (r : ℕ) : Type 0 where
  pub register : r ≤ 10
  pub result : r ≢ 0
  pub five : r ≢ 5
  pub nine : r ≢ 9

-- a jump at the unit, with a condition or without, leads to the target
abbrev pub JumpsTo : List Insn → ℕ → ℕ → Type 0
JumpsTo program unit target =
    (distance : ℤ) × (JumpsBy program unit distance × (unit_of (target_of unit distance) ≡ Some target))

-- some jump leads to the unit
abbrev pub IsTarget : List Insn → ℕ → Type 0
IsTarget program unit = (u : ℕ) × JumpsTo program u unit

-- the instruction at the unit is followed in the text by the one at the next
abbrev pub FallsTo : List Insn → ℕ → ℕ → Type 0
FallsTo program unit next =
    (i : Insn) × ((instruction_at program unit ≡ Some i) × ((falls_through i ≡ true) × (next ≡ unit + units_of i)))

-- a path goes on to the next instruction, by a jump to its target, by a condition to either
abbrev pub IsNextUnit : List Insn → ℕ → ℕ → Type 0
IsNextUnit program unit next = FallsTo program unit next ⊎ JumpsTo program unit next

-- a path from unit 0 to a unit, as the list of units before it, the latest first
abbrev pub IsPathTo : List Insn → List ℕ → ℕ → Type 0
IsPathTo program [] unit = unit ≡ 0
IsPathTo program (u ∷ before) unit = IsNextUnit program u unit × IsPathTo program before u

-- this holds of every path to the unit
abbrev pub OnEveryPath : List Insn → ℕ → (List ℕ → Type 0) → Type 0
OnEveryPath program unit holds = (before : List ℕ) → IsPathTo program before unit → holds before

-- the instruction at the unit writes the register
abbrev pub WritesRegister : List Insn → ℕ → ℕ → Type 0
WritesRegister program r u = (i : Insn) × ((instruction_at program u ≡ Some i) × (written_by i ≡ Some r))

-- the register was written on the path, or has a value at entry
abbrev pub WasWritten : List Insn → ℕ → List ℕ → Type 0
WasWritten program r [] = HasValueAtEntry r
WasWritten program r (u ∷ before) = WritesRegister program r u ⊎ WasWritten program r before

-- a store through the window's register touches the window's byte at this distance
pub record StoresByte (program : List Insn) (u : ℕ) (w : Window) (j : ℕ) : Type 0 where
  pub i : Insn
  pub t : Touch
  pub first : ℕ
  pub at : instruction_at program u ≡ Some i
  pub is : store_of i ≡ Some t
  pub through : t.base ≡ base_of w
  pub begins : (pos (base_offset w) +ℤ t.offset) ≡ pos first
  pub from : first ≤ j
  pub to : j < first + t.count

-- the byte was stored on the path; a store through another register doesn't count
abbrev pub WasStored : List Insn → Window → ℕ → List ℕ → Type 0
WasStored program w j [] = ⊥
WasStored program w j (u ∷ before) = StoresByte program u w j ⊎ WasStored program w j before

-- the path ends with these instructions, the latest first
abbrev pub EndsIn : List Insn → List Insn → List ℕ → Type 0
EndsIn program [] before = Unit {0}
EndsIn program (i ∷ more) [] = ⊥
EndsIn program (i ∷ more) (u ∷ before) = (instruction_at program u ≡ Some i) × EndsIn program more before
