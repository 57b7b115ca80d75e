-- Bytes that a step never changes: those of the read-only windows.
use Rattle.std.proofs.Common.{◌≡◌, ℕ, ◌+◌, ◌<◌, ◌≤◌, Bool, true, false, Some, length, sym, ap, ◌∙◌, ℤ, arith, inl, inr}
use Rattle.std.specs.Prelude.{nat_le, nat_lt, ◌&&◌, not}
use Rattle.std.proofs.lemmas.Bool.{cond-false, or_cases, or_left, or_right, cases_Bool, both_ways}
use Rattle.std.proofs.lemmas.Bool.Decides.{nat_tests}
use Rattle.bpf_model.specs.declared.limits.TheConstants.{STACK_BYTES}
use Rattle.bpf_model.specs.declared.input.Sizes.{Sizes}
use Rattle.bpf_model.specs.declared.window.Window.{Window}
use Rattle.bpf_model.specs.declared.window.Window.TheVariants.{Key, Old, Arg, Result, Stack}
use Rattle.bpf_model.specs.declared.instruction.Insn.{Insn}
use Rattle.bpf_model.specs.declared.instruction.Insn.TheVariants.{Alu, Negate, Mov, SignExtend, Reorder, Wide, Load, Store, Jump, JumpLong, Branch, Exit}
use Rattle.bpf_model.specs.Words.{bytes_of, word_of}
use Rattle.bpf_model.specs.Fits.{AreWithinLimits}
use Rattle.bpf_model.specs.Arithmetic.{alu_value, negated, mov_value, extended, reordered}
use Rattle.bpf_model.specs.Accesses.{byte_count, loaded_value}
use Rattle.bpf_model.specs.Memory.{Partial, lies_in, lies_in_window, can_write, with_bytes}
use Rattle.bpf_model.specs.State.{State}
use Rattle.bpf_model.specs.Step.{address_of, sets, jumps, act}
use Rattle.bpf_model.proofs.WordLemmas.{length-bytes_of}
use Rattle.bpf_model.proofs.StepLemmas.{alu_acts, negate_acts, mov_acts, sign_extend_acts, reorder_acts, load_acts, store_acts, branch_acts, sets_is, stores_is, jumps_is}

-- whether a window is read-only
abbrev pub is_read_only : Window → Bool
is_read_only Key = true
is_read_only Old = true
is_read_only Arg = true
is_read_only Result = false
is_read_only Stack = false

-- bytes may be written if the window isn't read-only
pub writable : (sizes : Sizes) → AreWithinLimits sizes → (window : Window) (a n : ℕ) → lies_in_window sizes window a n ≡ true → can_write sizes a n ≡ not (is_read_only window)
writable sizes limits Key a n h = let k = limits.key in grind (arith, nat_tests)
writable sizes limits Old a n h = let k = limits.old in grind (arith, nat_tests)
writable sizes limits Arg a n h = let k = limits.arg in grind (arith, nat_tests)
writable sizes limits Result a n h = grind (arith, nat_tests)
writable sizes limits Stack a n h = grind (arith, nat_tests)

-- a byte among bytes of a window is in the window
one_of_many : (first size a n q : ℕ) → lies_in first size a n ≡ true → a ≤ q → q < a + n → lies_in first size q 1 ≡ true
one_of_many first size a n q h from below = grind (arith, nat_tests)

-- so each of several writable bytes is writable
one_writable : (sizes : Sizes) (a n q : ℕ) → can_write sizes a n ≡ true → a ≤ q → q < a + n → can_write sizes q 1 ≡ true
one_writable sizes a n q h from below =
    elim (or_cases (lies_in_window sizes Result a n) (lies_in_window sizes Stack a n) h) [
      | inl e ↦ or_left _ _ (one_of_many 0x40000 sizes.result a n q e from below)
      | inr e ↦ or_right _ _ (one_of_many 0x50000 STACK_BYTES a n q e from below)
    ]

-- an allowed write leaves each byte that can't be written
other_kept : (sizes : Sizes) (m : Partial) (a n v q : ℕ) → can_write sizes a n ≡ true → can_write sizes q 1 ≡ false → with_bytes m a (bytes_of n v) q ≡ m q
other_kept sizes m a n v q writes not_q =
    elim (cases_Bool (nat_le a q && nat_lt q (a + length (bytes_of n v)))) [
      | inl e ↦
          let len = length-bytes_of n v in
          let from : a ≤ q = grind (arith, nat_tests, e) in
          let below : q < a + length (bytes_of n v) = grind (arith, nat_tests, e) in
          absurd (both_ways (can_write sizes q 1) not_q (one_writable sizes a n q writes from (omega (arith, below, len))))
      | inr e ↦ cond-false _ _ _ e
    ]

-- a step that sets a register doesn't change the memory
set_kept : (s t : State) (units dst v q : ℕ) → sets s units dst v ≡ Some t → t.memory q ≡ s.memory q
set_kept s t units dst v q e = ap (λ (u : State). u.memory q) (sym (sets_is s t units dst v e).1)

-- a jump leaves the memory
jump_kept : (s t : State) (distance : ℤ) (q : ℕ) → jumps s distance ≡ Some t → t.memory q ≡ s.memory q
jump_kept s t distance q e = ap (λ (u : State). u.memory q) (sym (jumps_is s t distance e).2)

-- a step leaves each byte that can't be written
pub unwritable_kept : (sizes : Sizes) (i : Insn) (s t : State) (q : ℕ) → act sizes i s ≡ Some t → can_write sizes q 1 ≡ false → t.memory q ≡ s.memory q
unwritable_kept sizes (Alu op width dst src) s t q e h =
    let x = alu_acts sizes s t op width dst src e in
    set_kept s t 1 dst (alu_value op width x.a x.b) q x.sets_it
unwritable_kept sizes (Negate width dst) s t q e h =
    let x = negate_acts sizes s t width dst e in
    set_kept s t 1 dst (negated width x.0) q x.2
unwritable_kept sizes (Mov width dst src) s t q e h =
    let x = mov_acts sizes s t width dst src e in
    set_kept s t 1 dst (mov_value width x.0) q x.2
unwritable_kept sizes (SignExtend extension dst src) s t q e h =
    let x = sign_extend_acts sizes s t extension dst src e in
    set_kept s t 1 dst (extended extension x.0) q x.2
unwritable_kept sizes (Reorder order size dst) s t q e h =
    let x = reorder_acts sizes s t order size dst e in
    set_kept s t 1 dst (reordered order size x.0) q x.2
unwritable_kept sizes (Wide dst value) s t q e h = set_kept s t 2 dst value q e
unwritable_kept sizes (Load kind dst src offset) s t q e h =
    let x = load_acts sizes s t kind dst src offset e in
    set_kept s t 1 dst (loaded_value kind (word_of x.bytes)) q x.sets_it
unwritable_kept sizes (Store size dst src offset) s t q e h =
    let x = store_acts sizes s t size dst src offset e in
    let a = address_of x.base offset in
    let n = byte_count size in
    let y = stores_is sizes s t a n x.value x.stores_it in
    ap (λ (u : State). u.memory q) (sym y.1) ∙ other_kept sizes s.memory a n x.value q y.0 h
unwritable_kept sizes (Jump distance) s t q e h = jump_kept s t distance q e
unwritable_kept sizes (JumpLong distance) s t q e h = jump_kept s t distance q e
unwritable_kept sizes (Branch test width dst src distance) s t q e h =
    let x = branch_acts sizes s t test width dst src distance e in
    jump_kept s t _ q x.lands
unwritable_kept sizes Exit s t q e h = absurd cc
