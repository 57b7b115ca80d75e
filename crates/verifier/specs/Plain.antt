-- Plain programs: you see that they are safe when you read their text. Our profile of RFC 9669.
use Rattle.std.specs.Prelude.{◌≡◌, ◌≢◌, ℕ, suc, ◌+◌, ◌<◌, ◌≤◌, true, ◌⊎◌, List, Some, ℤ, pos, negsuc, ◌+ℤ◌}
use Rattle.bpf_model.specs.declared.input.Sizes.{Sizes}
use Rattle.bpf_model.specs.declared.window.Window.{Window}
use Rattle.bpf_model.specs.declared.window.Window.TheVariants.{Result}
use Rattle.bpf_model.specs.declared.operations.AluOp.TheVariants.{Add, And}
use Rattle.bpf_model.specs.declared.operations.Width.TheVariants.{W64}
use Rattle.bpf_model.specs.declared.instruction.Operand.TheVariants.{Register, Immediate}
use Rattle.bpf_model.specs.declared.instruction.Insn.{Insn}
use Rattle.bpf_model.specs.declared.instruction.Insn.TheVariants.{Alu, Mov, Exit}
use Rattle.bpf_model.specs.Program.{instruction_at, unit_count}
use Rattle.bpf_model.specs.Memory.{window_size}
use Rattle.bpf_model.specs.Fits.{AreWithinLimits}
use Rattle.stack_slots.specs.Kept.{IsKept}
use Rattle.verifier.specs.Instructions.{reads, written_by, Touch, load_of, store_of}
use Rattle.verifier.specs.Paths.{base_of, base_offset, IsTarget, OnEveryPath, WasWritten, WasStored}

-- the instructions of a mask: copy the window's register, cut a number to at most m, and add it
abbrev pub copy_of : ℕ → Window → Insn
copy_of d w = Mov W64 d (Register (base_of w))

abbrev pub mask_of : ℕ → ℕ → Insn
mask_of x m = Alu And W64 x (Immediate (pos m))

abbrev pub addition_of : ℕ → ℕ → Insn
addition_of d x = Alu Add W64 d (Register x)

-- sets the answer to a constant
abbrev pub constant_of : ℤ → Insn
constant_of c = Mov W64 0 (Immediate c)

-- the three instructions before the unit set rD to a window's register plus 0 to m, and no jump leads in between
pub record IsMasked (program : List Insn) (unit d : ℕ) (w : Window) (m : ℕ) : Type 0 where
  pub x : ℕ
  pub start : ℕ
  pub is : unit ≡ suc (suc (suc start))
  pub other : d ≢ x
  pub copies : instruction_at program start ≡ Some (copy_of d w)
  pub masks : instruction_at program (suc start) ≡ Some (mask_of x m)
  pub adds : instruction_at program (suc (suc start)) ≡ Some (addition_of d x)
  pub mask_apart : IsTarget program (suc start) → ⊥
  pub sum_apart : IsTarget program (suc (suc start)) → ⊥
  pub access_apart : IsTarget program unit → ⊥

-- an access that lies inside the window, at this distance from its first byte or up to `further` bytes after it; it
-- goes through the window's register, or through a masked one
pub record LiesPlainly (program : List Insn) (sizes : Sizes) (unit : ℕ) (t : Touch) : Type 0 where
  pub window : Window
  pub first : ℕ
  pub further : ℕ
  pub through : ((t.base ≡ base_of window) × (further ≡ 0)) ⊎ IsMasked program unit t.base window further
  pub begins : (pos (base_offset window) +ℤ t.offset) ≡ pos first
  pub inside : first + further + t.count ≤ window_size sizes window

-- a load; if a run may write to the window, the bytes were stored on every path
pub record LoadsPlainly (program : List Insn) (sizes : Sizes) (unit : ℕ) (t : Touch) : Type 0 where
  pub span : LiesPlainly program sizes unit t
  pub stored : (j : ℕ) → IsKept span.window → span.first ≤ j → j < span.first + span.further + t.count
      → OnEveryPath program unit (WasStored program span.window j)

-- a store into the result or the stack
pub record StoresPlainly (program : List Insn) (sizes : Sizes) (unit : ℕ) (t : Touch) : Type 0 where
  pub span : LiesPlainly program sizes unit t
  pub kept : IsKept span.window

-- -1, or a count of the result's first bytes, all of them stored on every path
abbrev pub IsPlainAnswer : List Insn → ℕ → ℤ → Type 0
IsPlainAnswer program unit c =
    OnEveryPath program unit (λ before. (c ≡ negsuc 0) ⊎ ((n : ℕ) × ((c ≡ pos n) × ((j : ℕ) → j < n → WasStored program Result j before))))

-- an EXIT that follows `mov64 r0, c` in the text, and that no jump leads to
pub record ExitsPlainly (program : List Insn) (unit : ℕ) : Type 0 where
  pub before : ℕ
  pub answer : ℤ
  pub is : unit ≡ suc before
  pub moves : instruction_at program before ≡ Some (constant_of answer)
  pub apart : IsTarget program unit → ⊥
  pub plain : IsPlainAnswer program unit answer

-- the windows' registers are never written; each access lies inside a window; a loaded byte or a register that is read
-- was written before; and the answer is a constant
pub record IsPlain (program : List Insn) (sizes : Sizes) : Type 0 where
  pub limits : AreWithinLimits sizes
  pub bases : (u : ℕ) (i : Insn) (w : Window) → instruction_at program u ≡ Some i → written_by i ≢ Some (base_of w)
  pub reading : (u : ℕ) (i : Insn) (r : ℕ) → instruction_at program u ≡ Some i → reads i r ≡ true → OnEveryPath program u (WasWritten program r)
  pub loading : (u : ℕ) (i : Insn) (t : Touch) → instruction_at program u ≡ Some i → load_of i ≡ Some t → LoadsPlainly program sizes u t
  pub storing : (u : ℕ) (i : Insn) (t : Touch) → instruction_at program u ≡ Some i → store_of i ≡ Some t → StoresPlainly program sizes u t
  pub exiting : (u : ℕ) → instruction_at program u ≡ Some Exit → ExitsPlainly program u

-- a program that was plain by the limits of version 1: at most 512 units, and windows of at most 256 bytes
pub record IsPlainInVersionOne (program : List Insn) (sizes : Sizes) : Type 0 where
  pub plain : IsPlain program sizes
  pub units : unit_count program ≤ 512
  pub old : sizes.old ≤ 256
  pub arg : sizes.arg ≤ 256
  pub result : sizes.result ≤ 256
