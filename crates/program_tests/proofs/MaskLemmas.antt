-- An access through a masked register: plain exactly if each place that the mask leaves is inside the window.
use Rattle.std.proofs.Common.{◌≡◌, ◌≢◌, ℕ, suc, ◌<◌, ◌⊎◌, true, [], ◌∷◌, Some, refl, sym, ap, subst, inl, inr, arith, pos}
use Rattle.bpf_model.specs.declared.window.Window.{Window}
use Rattle.bpf_model.specs.declared.window.Window.TheVariants.{Key, Old, Arg, Result, Stack}
use Rattle.bpf_model.specs.declared.instruction.Insn.TheVariants.{Exit}
use Rattle.bpf_model.specs.Program.{instruction_at}
use Rattle.bpf_model.specs.Memory.{window_size}
use Rattle.bpf_model.specs.Fits.{AreWithinLimits}
use Rattle.verifier.specs.Instructions.{reads, written_by, Touch, load_of, store_of}
use Rattle.verifier.specs.Paths.{base_of, OnEveryPath, WritesRegister, WasWritten, WasStored, StoresByte}
use Rattle.verifier.specs.Plain.{copy_of, mask_of, IsMasked, LoadsPlainly, StoresPlainly, IsPlainAnswer, ExitsPlainly, IsPlain}
use Rattle.program_tests.specs.Examples.{with_sizes, masked_byte}
use Rattle.program_tests.proofs.TextLemmas.{AtEach, leads_there, sources}
use Rattle.program_tests.proofs.PlainLemmas.{zero_apart, five_apart, nine_apart, none_apart, after_one, no_target, same_register, one_register, two_registers, was_given, one_at_entry, two_at_entry, four_at_entry, stores_first, plain_by_text}

limits : AreWithinLimits (with_sizes 1 8 0 1)
limits = record { key = omega arith; old = omega arith; arg = omega arith; result = omega arith }

to_one : sources masked_byte 0 1 ≡ (0 ∷ [])
unfolding leads_there
to_one = refl

to_two : sources masked_byte 0 2 ≡ (1 ∷ [])
unfolding leads_there
to_two = refl

to_three : sources masked_byte 0 3 ≡ (2 ∷ [])
unfolding leads_there
to_three = refl

to_four : sources masked_byte 0 4 ≡ (3 ∷ [])
unfolding leads_there
to_four = refl

to_five : sources masked_byte 0 5 ≡ (4 ∷ [])
unfolding leads_there
to_five = refl

to_six : sources masked_byte 0 6 ≡ (5 ∷ [])
unfolding leads_there
to_six = refl

to_seven : sources masked_byte 0 7 ≡ (6 ∷ [])
unfolding leads_there
to_seven = refl

bases : AtEach masked_byte 0 (λ u i. (w : Window) → written_by i ≢ Some (base_of w))
bases = (nine_apart, (five_apart, (nine_apart, (five_apart, (zero_apart, (none_apart, (zero_apart, (none_apart, tt))))))))

-- a register is written from the instruction after the one that writes it
written_before : (v s r : ℕ) → v ≢ 0 → sources masked_byte 0 v ≡ (s ∷ []) → WritesRegister masked_byte r s → OnEveryPath masked_byte v (WasWritten masked_byte r)
written_before v s r later only writes = after_one masked_byte v s (WasWritten masked_byte r) later only (λ before comes. inl writes)

written_further : (v s r : ℕ) → v ≢ 0 → sources masked_byte 0 v ≡ (s ∷ []) → OnEveryPath masked_byte s (WasWritten masked_byte r) → OnEveryPath masked_byte v (WasWritten masked_byte r)
written_further v s r later only from = after_one masked_byte v s (WasWritten masked_byte r) later only (λ before comes. inr (from before comes))

nine_at_two : OnEveryPath masked_byte 2 (WasWritten masked_byte 9)
unfolding instruction_at
nine_at_two = written_further 2 1 9 (λ e. absurd cc) to_two (written_before 1 0 9 (λ e. absurd cc) to_one (_, (refl, refl)))

nine_at_three : OnEveryPath masked_byte 3 (WasWritten masked_byte 9)
nine_at_three = written_further 3 2 9 (λ e. absurd cc) to_three nine_at_two

five_at_three : OnEveryPath masked_byte 3 (WasWritten masked_byte 5)
unfolding instruction_at
five_at_three = written_further 3 2 5 (λ e. absurd cc) to_three (written_before 2 1 5 (λ e. absurd cc) to_two (_, (refl, refl)))

five_at_four : OnEveryPath masked_byte 4 (WasWritten masked_byte 5)
five_at_four = written_further 4 3 5 (λ e. absurd cc) to_four five_at_three

zero_at_five : OnEveryPath masked_byte 5 (WasWritten masked_byte 0)
unfolding instruction_at
zero_at_five = written_before 5 4 0 (λ e. absurd cc) to_five (_, (refl, refl))

zero_at_seven : OnEveryPath masked_byte 7 (WasWritten masked_byte 0)
unfolding instruction_at
zero_at_seven = written_before 7 6 0 (λ e. absurd cc) to_seven (_, (refl, refl))

-- a register that equals this one was written
so_written : (u k r : ℕ) → OnEveryPath masked_byte u (WasWritten masked_byte k) → k ≡ r → OnEveryPath masked_byte u (WasWritten masked_byte r)
so_written u k r from is = subst (λ (x : ℕ). OnEveryPath masked_byte u (WasWritten masked_byte x)) is from

reads_both : (u k m r : ℕ) → OnEveryPath masked_byte u (WasWritten masked_byte k) → OnEveryPath masked_byte u (WasWritten masked_byte m) → (k ≡ r) ⊎ (m ≡ r) → OnEveryPath masked_byte u (WasWritten masked_byte r)
reads_both u k m r first second (inl is) = so_written u k r first is
reads_both u k m r first second (inr is) = so_written u m r second is

reading : AtEach masked_byte 0 (λ u i. (r : ℕ) → reads i r ≡ true → OnEveryPath masked_byte u (WasWritten masked_byte r))
reading = (
  λ r h. so_written 0 1 r (was_given masked_byte 0 1 one_at_entry) (same_register 1 r h),
  (
    λ r h. so_written 1 2 r (was_given masked_byte 1 2 two_at_entry) (same_register 2 r h),
    (
      λ r h. so_written 2 9 r nine_at_two (one_register 9 r h),
      (
        λ r h. reads_both 3 5 9 r five_at_three nine_at_three (two_registers 5 9 r h),
        (
          λ r h. so_written 4 5 r five_at_four (same_register 5 r h),
          (
            λ r h. reads_both 5 4 0 r (was_given masked_byte 5 4 four_at_entry) zero_at_five (two_registers 4 0 r h),
            (
              λ r h. absurd cc,
              (λ r h. so_written 7 0 r zero_at_seven (same_register 0 r h), tt),
            ),
          ),
        ),
      ),
    ),
  ),
)

-- the load uses r5, to which 0 to 7 was added
is_masked : IsMasked masked_byte 4 5 Old 7
unfolding instruction_at
is_masked = record {
  x = 9;
  start = 1;
  is = refl;
  other = λ e. absurd cc;
  copies = refl;
  masks = refl;
  adds = refl;
  mask_apart = no_target masked_byte 2 1 to_two refl;
  sum_apart = no_target masked_byte 3 2 to_three refl;
  access_apart = no_target masked_byte 4 3 to_four refl;
}

loads_key : (t : Touch) → t.base ≡ 1 → t.offset ≡ pos 0 → t.count ≡ 1 → LoadsPlainly masked_byte (with_sizes 1 8 0 1) 0 t
loads_key t base offset count = record {
  span = record { window = Key; first = 0; further = 0; through = inl (base, refl); begins = rw offset refl; inside = omega (arith, count) };
  stored = λ j kept. absurd kept;
}

loads_old : (t : Touch) → t.base ≡ 5 → t.offset ≡ pos 0 → t.count ≡ 1 → LoadsPlainly masked_byte (with_sizes 1 8 0 1) 4 t
loads_old t base offset count = record {
  span = record { window = Old; first = 0; further = 7; through = inr (subst (λ (d : ℕ). IsMasked masked_byte 4 d Old 7) (sym base) is_masked); begins = rw offset refl; inside = omega (arith, count) };
  stored = λ j kept. absurd kept;
}

loading : AtEach masked_byte 0 (λ u i. (t : Touch) → load_of i ≡ Some t → LoadsPlainly masked_byte (with_sizes 1 8 0 1) u t)
loading = (
  λ t e.
      let base : t.base ≡ 1 = cc in
      let offset : t.offset ≡ pos 0 = cc in
      let count : t.count ≡ 1 = cc in
      loads_key t base offset count,
  (
    λ t e. absurd cc,
    (
      λ t e. absurd cc,
      (
        λ t e. absurd cc,
        (
          λ t e.
              let base : t.base ≡ 5 = cc in
              let offset : t.offset ≡ pos 0 = cc in
              let count : t.count ≡ 1 = cc in
              loads_old t base offset count,
          (λ t e. absurd cc, (λ t e. absurd cc, (λ t e. absurd cc, tt))),
        ),
      ),
    ),
  ),
)

storing : AtEach masked_byte 0 (λ u i. (t : Touch) → store_of i ≡ Some t → StoresPlainly masked_byte (with_sizes 1 8 0 1) u t)
storing = (
  λ t e. absurd cc,
  (
    λ t e. absurd cc,
    (
      λ t e. absurd cc,
      (
        λ t e. absurd cc,
        (
          λ t e. absurd cc,
          (
            λ t e.
                let base : t.base ≡ 4 = cc in
                let offset : t.offset ≡ pos 0 = cc in
                let count : t.count ≡ 1 = cc in
                stores_first masked_byte (with_sizes 1 8 0 1) 5 t base offset (omega (arith, count)),
            (λ t e. absurd cc, (λ t e. absurd cc, tt)),
          ),
        ),
      ),
    ),
  ),
)

stored_at_five : (j : ℕ) → j < 1 → StoresByte masked_byte 5 Result j
unfolding instruction_at
stored_at_five j less = record { i = _; t = _; first = 0; at = refl; is = refl; through = refl; begins = refl; from = omega arith; to = less }

stored_before : (j : ℕ) → j < 1 → OnEveryPath masked_byte 7 (WasStored masked_byte Result j)
stored_before j less =
    after_one masked_byte 7 6 (WasStored masked_byte Result j) (λ e. absurd cc) to_seven
    (after_one masked_byte 6 5 (λ before. WasStored masked_byte Result j (6 ∷ before)) (λ e. absurd cc) to_six
    (λ before comes. inr (inl (stored_at_five j less))))

answer : IsPlainAnswer masked_byte 7 (pos 1)
answer = λ before comes. inr (1, (refl, λ j less. stored_before j less before comes))

exiting : AtEach masked_byte 0 (λ u i. i ≡ Exit → ExitsPlainly masked_byte u)
unfolding instruction_at
exiting = (λ e. absurd cc, (λ e. absurd cc, (λ e. absurd cc, (λ e. absurd cc, (λ e. absurd cc, (λ e. absurd cc, (λ e. absurd cc, (λ e. record { before = 6; answer = pos 1; is = refl; moves = refl; apart = no_target masked_byte 7 6 to_seven refl; plain = answer }, tt))))))))

pub masked_byte_is_plain : IsPlain masked_byte (with_sizes 1 8 0 1)
masked_byte_is_plain = plain_by_text masked_byte (with_sizes 1 8 0 1) limits bases reading loading storing exiting

-- r5 is no window's register
five_is_none : (w : Window) → 5 ≡ base_of w → ⊥
five_is_none Key e = absurd cc
five_is_none Old e = absurd cc
five_is_none Arg e = absurd cc
five_is_none Result e = absurd cc
five_is_none Stack e = absurd cc

-- for the register that the mask copied
copied_is_old : (w : Window) → instruction_at masked_byte 1 ≡ Some (copy_of 5 w) → w ≡ Old
unfolding instruction_at
copied_is_old Key e = absurd cc
copied_is_old Old e = refl
copied_is_old Arg e = absurd cc
copied_is_old Result e = absurd cc
copied_is_old Stack e = absurd cc

mask_is_seven : (x m : ℕ) → instruction_at masked_byte 2 ≡ Some (mask_of x m) → m ≡ 7
unfolding instruction_at
mask_is_seven x m e = cc

start_is_one : (start : ℕ) → 4 ≡ suc (suc (suc start)) → start ≡ 1
start_is_one start e = omega (arith, e)

-- a masked access at the load is 0 to 7 bytes into the old value
masked_at_four : (w : Window) (m : ℕ) → IsMasked masked_byte 4 5 w m → (w ≡ Old) × (m ≡ 7)
masked_at_four w m masked =
    let start = start_is_one masked.start masked.is in
    let copies = subst (λ (u : ℕ). instruction_at masked_byte u ≡ Some (copy_of 5 w)) start masked.copies in
    let masks = subst (λ (u : ℕ). instruction_at masked_byte (suc u) ≡ Some (mask_of masked.x m)) start masked.masks in
    (copied_is_old w copies, mask_is_seven masked.x m masks)

pub mask_past_its_window_is_not_plain : IsPlain masked_byte (with_sizes 1 7 0 1) → ⊥
unfolding instruction_at
mask_past_its_window_is_not_plain plain =
    let loads = plain.loading 4 _ _ refl refl in
    elim loads.span.through [
      | inl direct ↦ five_is_none loads.span.window direct.0
      | inr masked ↦
          let is = masked_at_four loads.span.window loads.span.further masked in
          let size = ap (λ (w : Window). window_size (with_sizes 1 7 0 1) w) is.0 in
          let inside = loads.span.inside in
          let further = is.1 in
          absurd (omega (arith, inside, size, further))
    ]
