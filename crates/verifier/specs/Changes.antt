-- How an instruction changes an abstract state, and what is enough for it to be accepted. This verifier's own.
use Rattle.std.specs.Prelude.{◌≡◌, ◌≢◌, ℕ, ◌+◌, ◌<◌, ◌≤◌, true, false, ◌⊎◌, Some, ◌^◌, ℤ, pos, negsuc, ◌+ℤ◌, ◌≤ℤ◌}
use Rattle.bpf_model.specs.declared.limits.TheConstants.{STACK_BYTES}
use Rattle.bpf_model.specs.declared.input.Sizes.{Sizes}
use Rattle.bpf_model.specs.declared.window.Window.{Window}
use Rattle.bpf_model.specs.declared.window.Window.TheVariants.{Key, Old, Arg, Result, Stack}
use Rattle.bpf_model.specs.declared.operations.AluOp.TheVariants.{Add, And}
use Rattle.bpf_model.specs.declared.operations.Width.TheVariants.{W64}
use Rattle.bpf_model.specs.declared.accesses.AccessSize.{AccessSize}
use Rattle.bpf_model.specs.declared.instruction.Operand.{Operand}
use Rattle.bpf_model.specs.declared.instruction.Operand.TheVariants.{Register, Immediate}
use Rattle.bpf_model.specs.declared.instruction.Insn.{Insn}
use Rattle.bpf_model.specs.declared.instruction.Insn.TheVariants.{Alu, Mov, Exit}
use Rattle.bpf_model.specs.Accesses.{byte_count}
use Rattle.bpf_model.specs.Memory.{window_size}
use Rattle.value_ranges.specs.declared.range.Range.{Range}
use Rattle.value_ranges.specs.In.{IsSingle}
use Rattle.stack_slots.specs.declared.pointer.Pointer.{Pointer}
use Rattle.stack_slots.specs.declared.reg_value.RegValue.{RegValue}
use Rattle.stack_slots.specs.declared.reg_value.RegValue.TheVariants.{Unwritten, Number, Pointer as PointerInto}
use Rattle.stack_slots.specs.Kept.{IsKept}
use Rattle.stack_slots.specs.Offsets.{AreInReach}
use Rattle.stack_slots.specs.Values.{IsPointerIn, IsNumberIn}
use Rattle.stack_slots.specs.Frames.{is_written, KeepsMarks, NoneUnwritten}
use Rattle.verifier.specs.declared.abstract_state.AbstractState.{AbstractState}
use Rattle.verifier.specs.declared.abstract_state.span.Span.{Span}
use Rattle.verifier.specs.Instructions.{reads, written_by, Touch, load_of, store_of, IsAboveLeastOffset}
use Rattle.verifier.specs.Joins.{register}

-- only this word, with the same signed and unsigned reading
pub record IsSmallWord (m : ℕ) (x : RegValue) : Type 0 where
  pub range : Range
  pub is : x ≡ Number range
  pub single : IsSingle range m
  pub small : m < 2 ^ 63

-- the access is at one address only, and touches the byte at this distance from the window's first one
pub record TouchesByte (a : AbstractState) (t : Touch) (w : Window) (j : ℕ) : Type 0 where
  pub distance : ℤ
  pub first : ℕ
  pub through : IsPointerIn w distance distance (register a t.base)
  pub begins : distance +ℤ t.offset ≡ pos first
  pub from : first ≤ j
  pub to : j < first + t.count

-- how an instruction changes the abstract state, if a run goes on at the next instruction
pub record Changes (i : Insn) (a b : AbstractState) : Type 0 where
  pub others : (r : ℕ) → written_by i ≢ Some r → register b r ≡ register a r
  pub target : (r : ℕ) → NoneUnwritten a.frame → written_by i ≡ Some r → register b r ≢ Unwritten
  pub marks : KeepsMarks a.frame b.frame
  pub spills : NoneUnwritten a.frame → NoneUnwritten b.frame
  pub stores : (t : Touch) (w : Window) (j : ℕ) → store_of i ≡ Some t → TouchesByte a t w j → is_written b.frame w j ≡ true
  pub moves : (d s : ℕ) → i ≡ Mov W64 d (Register s) → register b d ≡ register a s
  pub constant : (d : ℕ) (k : ℤ) → i ≡ Mov W64 d (Immediate k) → IsNumberIn k k (register b d)
  pub masks : (d m : ℕ) → i ≡ Alu And W64 d (Immediate (pos m)) → IsNumberIn (pos 0) (pos m) (register b d)
  pub adds : (d x : ℕ) (w : Window) (lo hi from to : ℤ) → i ≡ Alu Add W64 d (Register x) → AreInReach (lo +ℤ from) (hi +ℤ to)
      → IsPointerIn w lo hi (register a d) → IsNumberIn from to (register a x) → IsPointerIn w (lo +ℤ from) (hi +ℤ to) (register b d)

-- a condition turns a number into a number, and leaves all else as it was
abbrev pub IsNarrowed : RegValue → RegValue → Type 0
IsNarrowed Unwritten y = y ≡ Unwritten
IsNarrowed (Number r) y = (q : Range) × (y ≡ Number q)
IsNarrowed (PointerInto p) y = y ≡ PointerInto p

pub record OnlyNarrows (a b : AbstractState) : Type 0 where
  pub registers : (r : ℕ) → IsNarrowed (register a r) (register b r)
  pub frame : b.frame ≡ a.frame

-- the register of a condition's second operand, or that of the first if the second isn't a register
abbrev pub second_register : ℕ → Operand → ℕ
second_register dst (Register r) = r
second_register dst (Immediate k) = dst

-- all registers except the operands' keep their values
abbrev pub KeepsOthers : AbstractState → ℕ → Operand → AbstractState → Type 0
KeepsOthers a dst src b = (r : ℕ) → r ≢ dst → r ≢ second_register dst src → register b r ≡ register a r

-- the state at entry: where the registers point, and what the lengths may be
pub record IsEntry (sizes : Sizes) (a : AbstractState) : Type 0 where
  pub key : IsPointerIn Key (pos 0) (pos 0) (register a 1)
  pub old : IsPointerIn Old (pos 0) (pos 0) (register a 2)
  pub arg : IsPointerIn Arg (pos 0) (pos 0) (register a 3)
  pub result : IsPointerIn Result (pos 0) (pos 0) (register a 4)
  pub stack : IsPointerIn Stack (pos STACK_BYTES) (pos STACK_BYTES) (register a 10)
  pub key_length : IsNumberIn (pos 0) (pos sizes.key) (register a 6)
  pub old_length : IsNumberIn (negsuc 0) (pos sizes.old) (register a 7)
  pub arg_length : IsNumberIn (negsuc 0) (pos sizes.arg) (register a 8)
  pub unwritten : (r : ℕ) → (r ≡ 0) ⊎ ((r ≡ 5) ⊎ ((r ≡ 9) ⊎ (11 ≤ r))) → register a r ≡ Unwritten
  pub marks : (w : Window) (i : ℕ) → is_written a.frame w i ≡ false
  pub spills : NoneUnwritten a.frame

-- at each of its addresses an access of this many bytes through the pointer lies inside the window
pub record ReachesInside (sizes : Sizes) (p : Pointer) (offset : ℤ) (count : ℕ) : Type 0 where
  pub least : pos 0 ≤ℤ (p.least +ℤ offset)
  pub greatest : ((p.greatest +ℤ offset) +ℤ pos count) ≤ℤ pos (window_size sizes p.window)

-- the span of an access through the pointer
pub record IsSpan (p : Pointer) (offset : ℤ) (span : Span) : Type 0 where
  pub window_is : span.window ≡ p.window
  pub least_is : pos span.least ≡ p.least +ℤ offset
  pub greatest_is : pos span.greatest ≡ p.greatest +ℤ offset

-- each byte that an access of this many bytes may touch there was written
abbrev pub AreMarked : AbstractState → Span → ℕ → Type 0
AreMarked a p count = (j : ℕ) → p.least ≤ j → j < p.greatest + count → is_written a.frame p.window j ≡ true

-- how a store of a value there changes the abstract state
pub record WritesAt (a : AbstractState) (p : Span) (size : AccessSize) (x : RegValue) (b : AbstractState) : Type 0 where
  pub registers : b.registers ≡ a.registers
  pub keeps : KeepsMarks a.frame b.frame
  pub marks : p.least ≡ p.greatest → AreMarked b p (byte_count size)
  pub spills : x ≢ Unwritten → NoneUnwritten a.frame → NoneUnwritten b.frame

pub record CanTouch (sizes : Sizes) (a : AbstractState) (t : Touch) : Type 0 where
  pub pointer : Pointer
  pub through : register a t.base ≡ PointerInto pointer
  pub inside : ReachesInside sizes pointer t.offset t.count

-- a load inside its window; if a run may write to the window, the bytes were written
pub record CanLoad (sizes : Sizes) (a : AbstractState) (t : Touch) : Type 0 where
  pub touch : CanTouch sizes a t
  pub written : (j : ℕ) → IsKept touch.pointer.window → (touch.pointer.least +ℤ t.offset) ≤ℤ pos j
      → (pos j +ℤ pos 1) ≤ℤ ((touch.pointer.greatest +ℤ t.offset) +ℤ pos t.count) → is_written a.frame touch.pointer.window j ≡ true

-- a store inside a window that may be written
pub record CanStore (sizes : Sizes) (a : AbstractState) (t : Touch) : Type 0 where
  pub touch : CanTouch sizes a t
  pub kept : IsKept touch.pointer.window

-- r0 is -1, or a count of the result's first bytes that were all written
pub record CanExit (a : AbstractState) : Type 0 where
  pub answer : ℤ
  pub constant : IsNumberIn answer answer (register a 0)
  pub written : (answer ≡ negsuc 0) ⊎ ((n : ℕ) × ((answer ≡ pos n) × ((j : ℕ) → j < n → is_written a.frame Result j ≡ true)))

-- what is enough for an instruction to be accepted
pub record Suffices (sizes : Sizes) (i : Insn) (a : AbstractState) : Type 0 where
  pub read : (r : ℕ) → reads i r ≡ true → register a r ≢ Unwritten
  pub target : written_by i ≢ Some 10
  pub loads : (t : Touch) → load_of i ≡ Some t → IsAboveLeastOffset t.offset → CanLoad sizes a t
  pub stores : (t : Touch) → store_of i ≡ Some t → IsAboveLeastOffset t.offset → CanStore sizes a t
  pub exits : i ≡ Exit → CanExit a
