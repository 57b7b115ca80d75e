-- A closed program that is proved plain.
use Rattle.std.proofs.Common.{◌≡◌, ◌≢◌, ℕ, ◌≤◌, ◌⊎◌, true, false, List, [], ◌∷◌, Some, None, refl, sym, subst, inl, inr, arith, pos}
use Rattle.std.specs.Prelude.{nat_eq, ◌||◌, option_and_then}
use Rattle.std.proofs.lemmas.Bool.Decides.{nat_tests}
use Rattle.bpf_model.specs.declared.input.Sizes.{Sizes}
use Rattle.bpf_model.specs.declared.window.Window.{Window}
use Rattle.bpf_model.specs.declared.window.Window.TheVariants.{Key, Old, Arg, Result, Stack}
use Rattle.bpf_model.specs.declared.instruction.Insn.{Insn}
use Rattle.bpf_model.specs.declared.instruction.Insn.TheVariants.{Exit}
use Rattle.bpf_model.specs.Program.{instruction_at}
use Rattle.bpf_model.specs.Fits.{AreWithinLimits}
use Rattle.flow_shape.specs.Jumps.{distance_of}
use Rattle.verifier.specs.Instructions.{reads, written_by, Touch, load_of, store_of}
use Rattle.verifier.specs.Paths.{base_of, HasValueAtEntry, IsTarget, OnEveryPath, WasWritten, WasStored}
use Rattle.verifier.specs.Plain.{LoadsPlainly, StoresPlainly, IsPlainAnswer, ExitsPlainly, IsPlain}
use Rattle.program_tests.specs.Examples.{with_sizes, one_byte_at}
use Rattle.program_tests.proofs.TextLemmas.{AtEach, at_each, leads_there, sources, IsAmong, on_paths_from, written_at_entry, came_from}

pub zero_apart : (w : Window) → Some 0 ≢ Some (base_of w)
zero_apart Key = λ e. absurd cc
zero_apart Old = λ e. absurd cc
zero_apart Arg = λ e. absurd cc
zero_apart Result = λ e. absurd cc
zero_apart Stack = λ e. absurd cc

pub five_apart : (w : Window) → Some 5 ≢ Some (base_of w)
five_apart Key = λ e. absurd cc
five_apart Old = λ e. absurd cc
five_apart Arg = λ e. absurd cc
five_apart Result = λ e. absurd cc
five_apart Stack = λ e. absurd cc

pub nine_apart : (w : Window) → Some 9 ≢ Some (base_of w)
nine_apart Key = λ e. absurd cc
nine_apart Old = λ e. absurd cc
nine_apart Arg = λ e. absurd cc
nine_apart Result = λ e. absurd cc
nine_apart Stack = λ e. absurd cc

pub none_apart : (w : Window) → None ≢ Some (base_of w)
none_apart w = λ e. absurd cc

-- each path to a unit comes from one other
pub after_one : (program : List Insn) (v s : ℕ) (holds : List ℕ → Type 0) → v ≢ 0 → sources program 0 v ≡ (s ∷ []) → OnEveryPath program s (λ before. holds (s ∷ before)) → OnEveryPath program v holds
after_one program v s holds later only from =
    on_paths_from program v holds later (λ u among. elim (subst (IsAmong u) only among) [
      | inl e ↦ subst (λ (x : ℕ). OnEveryPath program x (λ before. holds (x ∷ before))) (sym e) from
      | inr z ↦ absurd z
    ])

-- each path to a unit comes from one of two others
pub after_two : (program : List Insn) (v s t : ℕ) (holds : List ℕ → Type 0) → v ≢ 0 → sources program 0 v ≡ (s ∷ t ∷ []) → OnEveryPath program s (λ before. holds (s ∷ before)) → OnEveryPath program t (λ before. holds (t ∷ before)) → OnEveryPath program v holds
after_two program v s t holds later both first second =
    on_paths_from program v holds later (λ u among. elim (subst (IsAmong u) both among) [
      | inl e ↦ subst (λ (x : ℕ). OnEveryPath program x (λ before. holds (x ∷ before))) (sym e) first
      | inr more ↦ elim more [
        | inl e ↦ subst (λ (x : ℕ). OnEveryPath program x (λ before. holds (x ∷ before))) (sym e) second
        | inr z ↦ absurd z
      ]
    ])

-- no jump leads to a unit that follows one other, which is no jump
pub no_target : (program : List Insn) (v s : ℕ) → sources program 0 v ≡ (s ∷ []) → option_and_then distance_of (instruction_at program s) ≡ None → IsTarget program v → ⊥
no_target program v s only straight target =
    elim (subst (IsAmong target.0) only (came_from program target.0 v (inr target.1))) [
      | inl e ↦ absurd (let jumps = subst (λ (x : ℕ). option_and_then distance_of (instruction_at program x) ≡ Some target.1.0) e target.1.1.0 in cc)
      | inr z ↦ z
    ]

pub same_register : (k r : ℕ) → nat_eq k r ≡ true → k ≡ r
same_register k r h = grind (arith, nat_tests)

pub one_register : (k r : ℕ) → (nat_eq k r || false) ≡ true → k ≡ r
one_register k r h = grind (arith, nat_tests)

pub two_registers : (k m r : ℕ) → (nat_eq k r || nat_eq m r) ≡ true → (k ≡ r) ⊎ (m ≡ r)
two_registers k m r h = grind (arith, nat_tests)

pub was_given : (program : List Insn) (u k : ℕ) → HasValueAtEntry k → OnEveryPath program u (WasWritten program k)
was_given program u k has = λ before comes. written_at_entry program k has before

at_entry : (r : ℕ) → r ≤ 10 → r ≢ 0 → r ≢ 5 → r ≢ 9 → HasValueAtEntry r
at_entry r a b c d = record { register = a; result = b; five = c; nine = d }

pub one_at_entry : HasValueAtEntry 1
one_at_entry = at_entry 1 (omega arith) (λ e. absurd cc) (λ e. absurd cc) (λ e. absurd cc)

pub two_at_entry : HasValueAtEntry 2
two_at_entry = at_entry 2 (omega arith) (λ e. absurd cc) (λ e. absurd cc) (λ e. absurd cc)

pub four_at_entry : HasValueAtEntry 4
four_at_entry = at_entry 4 (omega arith) (λ e. absurd cc) (λ e. absurd cc) (λ e. absurd cc)

pub six_at_entry : HasValueAtEntry 6
six_at_entry = at_entry 6 (omega arith) (λ e. absurd cc) (λ e. absurd cc) (λ e. absurd cc)

-- a store of the result's first bytes
pub stores_first : (program : List Insn) (sizes : Sizes) (u : ℕ) (t : Touch) → t.base ≡ 4 → t.offset ≡ pos 0 → t.count ≤ sizes.result → StoresPlainly program sizes u t
stores_first program sizes u t base offset inside = record {
  span = record { window = Result; first = 0; further = 0; through = inl (base, refl); begins = rw offset refl; inside = omega (arith, inside) };
  kept = tt;
}

byte_limits : AreWithinLimits (with_sizes 0 0 0 1)
byte_limits = record { key = omega arith; old = omega arith; arg = omega arith; result = omega arith }

byte_from_one : sources (one_byte_at (pos 0)) 0 2 ≡ (1 ∷ [])
unfolding leads_there
byte_from_one = refl

byte_from_zero : sources (one_byte_at (pos 0)) 0 1 ≡ (0 ∷ [])
unfolding leads_there
byte_from_zero = refl

byte_bases : AtEach (one_byte_at (pos 0)) 0 (λ u i. (w : Window) → written_by i ≢ Some (base_of w))
byte_bases = (none_apart, (zero_apart, (none_apart, tt)))

byte_answer_written : OnEveryPath (one_byte_at (pos 0)) 2 (WasWritten (one_byte_at (pos 0)) 0)
unfolding instruction_at
byte_answer_written = after_one (one_byte_at (pos 0)) 2 1 (WasWritten (one_byte_at (pos 0)) 0) (λ e. absurd cc) byte_from_one (λ before comes. inl (_, (refl, refl)))

byte_reading : AtEach (one_byte_at (pos 0)) 0 (λ u i. (r : ℕ) → reads i r ≡ true → OnEveryPath (one_byte_at (pos 0)) u (WasWritten (one_byte_at (pos 0)) r))
byte_reading = (
  λ r h. subst (λ (x : ℕ). OnEveryPath (one_byte_at (pos 0)) 0 (WasWritten (one_byte_at (pos 0)) x)) (one_register 4 r h) (was_given (one_byte_at (pos 0)) 0 4 four_at_entry),
  (
    λ r h. absurd cc,
    (λ r h. subst (λ (x : ℕ). OnEveryPath (one_byte_at (pos 0)) 2 (WasWritten (one_byte_at (pos 0)) x)) (same_register 0 r h) byte_answer_written, tt),
  ),
)

byte_loading : AtEach (one_byte_at (pos 0)) 0 (λ u i. (t : Touch) → load_of i ≡ Some t → LoadsPlainly (one_byte_at (pos 0)) (with_sizes 0 0 0 1) u t)
byte_loading = (λ t e. absurd cc, (λ t e. absurd cc, (λ t e. absurd cc, tt)))

byte_storing : AtEach (one_byte_at (pos 0)) 0 (λ u i. (t : Touch) → store_of i ≡ Some t → StoresPlainly (one_byte_at (pos 0)) (with_sizes 0 0 0 1) u t)
byte_storing = (
  λ t e.
      let base : t.base ≡ 4 = cc in
      let offset : t.offset ≡ pos 0 = cc in
      let count : t.count ≡ 1 = cc in
      stores_first (one_byte_at (pos 0)) (with_sizes 0 0 0 1) 0 t base offset (omega (arith, count)),
  (λ t e. absurd cc, (λ t e. absurd cc, tt)),
)

byte_answer : IsPlainAnswer (one_byte_at (pos 0)) 2 (pos 1)
unfolding instruction_at
byte_answer = λ before comes. inr (
  1,
  (
    refl,
    λ j less.
        after_one (one_byte_at (pos 0)) 2 1 (WasStored (one_byte_at (pos 0)) Result j) (λ e. absurd cc) byte_from_one
        (after_one (one_byte_at (pos 0)) 1 0 (λ before. WasStored (one_byte_at (pos 0)) Result j (1 ∷ before)) (λ e. absurd cc) byte_from_zero
        (λ before comes. inr (inl (record { i = _; t = _; first = 0; at = refl; is = refl; through = refl; begins = refl; from = omega arith; to = less }))))
        before comes,
  ),
)

byte_exiting : AtEach (one_byte_at (pos 0)) 0 (λ u i. i ≡ Exit → ExitsPlainly (one_byte_at (pos 0)) u)
unfolding instruction_at
byte_exiting = (
  λ e. absurd cc,
  (
    λ e. absurd cc,
    (λ e. record { before = 1; answer = pos 1; is = refl; moves = refl; apart = no_target (one_byte_at (pos 0)) 2 1 byte_from_one refl; plain = byte_answer }, tt),
  ),
)

-- a program is plain if each of its instructions is
pub plain_by_text : (program : List Insn) (sizes : Sizes) → AreWithinLimits sizes
    → AtEach program 0 (λ u i. (w : Window) → written_by i ≢ Some (base_of w))
    → AtEach program 0 (λ u i. (r : ℕ) → reads i r ≡ true → OnEveryPath program u (WasWritten program r))
    → AtEach program 0 (λ u i. (t : Touch) → load_of i ≡ Some t → LoadsPlainly program sizes u t)
    → AtEach program 0 (λ u i. (t : Touch) → store_of i ≡ Some t → StoresPlainly program sizes u t)
    → AtEach program 0 (λ u i. i ≡ Exit → ExitsPlainly program u)
    → IsPlain program sizes
plain_by_text program sizes limits bases reading loading storing exiting = record {
  limits = limits;
  bases = λ u i w e. at_each program (λ u i. (w : Window) → written_by i ≢ Some (base_of w)) bases u i e w;
  reading = λ u i r e h. at_each program (λ u i. (r : ℕ) → reads i r ≡ true → OnEveryPath program u (WasWritten program r)) reading u i e r h;
  loading = λ u i t e h. at_each program (λ u i. (t : Touch) → load_of i ≡ Some t → LoadsPlainly program sizes u t) loading u i e t h;
  storing = λ u i t e h. at_each program (λ u i. (t : Touch) → store_of i ≡ Some t → StoresPlainly program sizes u t) storing u i e t h;
  exiting = λ u e. at_each program (λ u i. i ≡ Exit → ExitsPlainly program u) exiting u Exit e refl;
}

pub one_byte_is_plain : IsPlain (one_byte_at (pos 0)) (with_sizes 0 0 0 1)
one_byte_is_plain = plain_by_text (one_byte_at (pos 0)) (with_sizes 0 0 0 1) byte_limits byte_bases byte_reading byte_loading byte_storing byte_exiting
