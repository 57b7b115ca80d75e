-- A load from the stack: plain exactly after a store of the byte. No path leads to the first exit.
use Rattle.std.proofs.Common.{◌≡◌, ◌≢◌, ℕ, suc, ◌≤◌, ◌<◌, true, List, [], ◌∷◌, Some, refl, subst, inl, inr, arith, pos, neg_ℤ}
use Rattle.bpf_model.specs.declared.window.Window.{Window}
use Rattle.bpf_model.specs.declared.window.Window.TheVariants.{Key, Old, Arg, Result, Stack}
use Rattle.bpf_model.specs.declared.accesses.AccessSize.TheVariants.{Byte, DoubleWord}
use Rattle.bpf_model.specs.declared.instruction.Insn.TheVariants.{Exit}
use Rattle.bpf_model.specs.Program.{instruction_at}
use Rattle.bpf_model.specs.Fits.{AreWithinLimits}
use Rattle.verifier.specs.Instructions.{reads, written_by, Touch, load_of, store_of}
use Rattle.verifier.specs.Paths.{base_of, HasValueAtEntry, IsPathTo, OnEveryPath, WasWritten, WasStored, StoresByte}
use Rattle.verifier.specs.Plain.{copy_of, IsMasked, LoadsPlainly, StoresPlainly, IsPlainAnswer, ExitsPlainly, IsPlain}
use Rattle.program_tests.specs.Examples.{with_sizes, read_back}
use Rattle.program_tests.proofs.TextLemmas.{AtEach, leads_there, sources, IsAmong, on_paths_from}
use Rattle.program_tests.proofs.PlainLemmas.{zero_apart, nine_apart, none_apart, after_one, no_target, same_register, one_register, was_given, plain_by_text}

limits : AreWithinLimits (with_sizes 0 0 0 0)
limits = record { key = omega arith; old = omega arith; arg = omega arith; result = omega arith }

to_one : sources (read_back DoubleWord) 0 1 ≡ []
unfolding leads_there
to_one = refl

to_two : sources (read_back DoubleWord) 0 2 ≡ (1 ∷ [])
unfolding leads_there
to_two = refl

to_four : sources (read_back DoubleWord) 0 4 ≡ (3 ∷ [])
unfolding leads_there
to_four = refl

to_six : sources (read_back DoubleWord) 0 6 ≡ (5 ∷ [])
unfolding leads_there
to_six = refl

-- no path leads past the first jump, so anything holds of each
nothing_at_two : (holds : List ℕ → Type 0) → OnEveryPath (read_back DoubleWord) 2 holds
nothing_at_two holds =
    after_one (read_back DoubleWord) 2 1 holds (λ e. absurd cc) to_two
    (on_paths_from (read_back DoubleWord) 1 (λ before. holds (1 ∷ before)) (λ e. absurd cc) (λ u among. absurd (subst (IsAmong u) to_one among)))

bases : AtEach (read_back DoubleWord) 0 (λ u i. (w : Window) → written_by i ≢ Some (base_of w))
bases = (none_apart, (zero_apart, (none_apart, (none_apart, (nine_apart, (zero_apart, (none_apart, tt)))))))

ten_at_entry : HasValueAtEntry 10
ten_at_entry = record { register = omega arith; result = λ e. absurd cc; five = λ e. absurd cc; nine = λ e. absurd cc }

given : (u r : ℕ) → 10 ≡ r → OnEveryPath (read_back DoubleWord) u (WasWritten (read_back DoubleWord) r)
given u r is = subst (λ (x : ℕ). OnEveryPath (read_back DoubleWord) u (WasWritten (read_back DoubleWord) x)) is (was_given (read_back DoubleWord) u 10 ten_at_entry)

answer_written : OnEveryPath (read_back DoubleWord) 6 (WasWritten (read_back DoubleWord) 0)
unfolding instruction_at
answer_written = after_one (read_back DoubleWord) 6 5 (WasWritten (read_back DoubleWord) 0) (λ e. absurd cc) to_six (λ before comes. inl (_, (refl, refl)))

reading : AtEach (read_back DoubleWord) 0 (λ u i. (r : ℕ) → reads i r ≡ true → OnEveryPath (read_back DoubleWord) u (WasWritten (read_back DoubleWord) r))
reading = (
  λ r h. absurd cc,
  (
    λ r h. absurd cc,
    (
      λ r h. nothing_at_two (WasWritten (read_back DoubleWord) r),
      (
        λ r h. given 3 r (one_register 10 r h),
        (
          λ r h. given 4 r (same_register 10 r h),
          (
            λ r h. absurd cc,
            (λ r h. subst (λ (x : ℕ). OnEveryPath (read_back DoubleWord) 6 (WasWritten (read_back DoubleWord) x)) (same_register 0 r h) answer_written, tt),
          ),
        ),
      ),
    ),
  ),
)

stored_at_three : (j : ℕ) → 511 ≤ j → j < 512 → StoresByte (read_back DoubleWord) 3 Stack j
unfolding instruction_at
stored_at_three j from to = record { i = _; t = _; first = 504; at = refl; is = refl; through = refl; begins = refl; from = omega (arith, from); to = omega (arith, to) }

stored_before : (j : ℕ) → 511 ≤ j → j < 512 → OnEveryPath (read_back DoubleWord) 4 (WasStored (read_back DoubleWord) Stack j)
stored_before j from to =
    after_one (read_back DoubleWord) 4 3 (WasStored (read_back DoubleWord) Stack j) (λ e. absurd cc) to_four (λ before comes. inl (stored_at_three j from to))

loads_last : (t : Touch) → t.base ≡ 10 → t.offset ≡ neg_ℤ (pos 1) → t.count ≡ 1 → LoadsPlainly (read_back DoubleWord) (with_sizes 0 0 0 0) 4 t
loads_last t base offset count = record {
  span = record { window = Stack; first = 511; further = 0; through = inl (base, refl); begins = rw offset refl; inside = omega (arith, count) };
  stored = λ j kept from to. stored_before j from (omega (arith, to, count));
}

loading : AtEach (read_back DoubleWord) 0 (λ u i. (t : Touch) → load_of i ≡ Some t → LoadsPlainly (read_back DoubleWord) (with_sizes 0 0 0 0) u t)
loading = (
  λ t e. absurd cc,
  (
    λ t e. absurd cc,
    (
      λ t e. absurd cc,
      (
        λ t e. absurd cc,
        (
          λ t e.
              let base : t.base ≡ 10 = cc in
              let offset : t.offset ≡ neg_ℤ (pos 1) = cc in
              let count : t.count ≡ 1 = cc in
              loads_last t base offset count,
          (λ t e. absurd cc, (λ t e. absurd cc, tt)),
        ),
      ),
    ),
  ),
)

stores_last : (t : Touch) → t.base ≡ 10 → t.offset ≡ neg_ℤ (pos 8) → t.count ≡ 8 → StoresPlainly (read_back DoubleWord) (with_sizes 0 0 0 0) 3 t
stores_last t base offset count = record {
  span = record { window = Stack; first = 504; further = 0; through = inl (base, refl); begins = rw offset refl; inside = omega (arith, count) };
  kept = tt;
}

storing : AtEach (read_back DoubleWord) 0 (λ u i. (t : Touch) → store_of i ≡ Some t → StoresPlainly (read_back DoubleWord) (with_sizes 0 0 0 0) u t)
storing = (
  λ t e. absurd cc,
  (
    λ t e. absurd cc,
    (
      λ t e. absurd cc,
      (
        λ t e.
            let base : t.base ≡ 10 = cc in
            let offset : t.offset ≡ neg_ℤ (pos 8) = cc in
            let count : t.count ≡ 8 = cc in
            stores_last t base offset count,
        (λ t e. absurd cc, (λ t e. absurd cc, (λ t e. absurd cc, tt))),
      ),
    ),
  ),
)

dead_answer : IsPlainAnswer (read_back DoubleWord) 2 (neg_ℤ (pos 2))
dead_answer = nothing_at_two _

answer : IsPlainAnswer (read_back DoubleWord) 6 (neg_ℤ (pos 1))
answer = λ before comes. inl refl

exiting : AtEach (read_back DoubleWord) 0 (λ u i. i ≡ Exit → ExitsPlainly (read_back DoubleWord) u)
unfolding instruction_at
exiting = (
  λ e. absurd cc,
  (
    λ e. absurd cc,
    (
      λ e. record { before = 1; answer = neg_ℤ (pos 2); is = refl; moves = refl; apart = no_target (read_back DoubleWord) 2 1 to_two refl; plain = dead_answer },
      (
        λ e. absurd cc,
        (
          λ e. absurd cc,
          (
            λ e. absurd cc,
            (λ e. record { before = 5; answer = neg_ℤ (pos 1); is = refl; moves = refl; apart = no_target (read_back DoubleWord) 6 5 to_six refl; plain = answer }, tt),
          ),
        ),
      ),
    ),
  ),
)

pub stored_byte_is_plain : IsPlain (read_back DoubleWord) (with_sizes 0 0 0 0)
stored_byte_is_plain = plain_by_text (read_back DoubleWord) (with_sizes 0 0 0 0) limits bases reading loading storing exiting

-- r10 points only into the stack
ten_is_stack : (w : Window) → 10 ≡ base_of w → w ≡ Stack
ten_is_stack Key e = absurd cc
ten_is_stack Old e = absurd cc
ten_is_stack Arg e = absurd cc
ten_is_stack Result e = absurd cc
ten_is_stack Stack e = refl

-- no register was copied three units before the load
not_copied : (w : Window) → instruction_at (read_back Byte) 1 ≡ Some (copy_of 10 w) → ⊥
unfolding instruction_at
not_copied w e = absurd cc

start_is_one : (start : ℕ) → 4 ≡ suc (suc (suc start)) → start ≡ 1
start_is_one start e = omega (arith, e)

not_masked : (w : Window) (m : ℕ) → IsMasked (read_back Byte) 4 10 w m → ⊥
not_masked w m masked = not_copied w (subst (λ (u : ℕ). instruction_at (read_back Byte) u ≡ Some (copy_of 10 w)) (start_is_one masked.start masked.is) masked.copies)

to_load : IsPathTo (read_back Byte) (3 ∷ 0 ∷ []) 4
unfolding instruction_at
to_load = (inl (_, (refl, (refl, refl))), (inr (pos 2, (refl, refl)), refl))

not_at_three : StoresByte (read_back Byte) 3 Stack 511 → ⊥
unfolding instruction_at
not_at_three s =
    let at = s.at in
    let offset : s.t.offset ≡ neg_ℤ (pos 8) = let is = s.is in cc in
    let count : s.t.count ≡ 1 = let is = s.is in cc in
    let begins = rw offset at s.begins in
    let first : s.first ≡ 504 = cc in
    let to = s.to in
    absurd (omega (arith, to, first, count))

not_at_zero : StoresByte (read_back Byte) 0 Stack 511 → ⊥
unfolding instruction_at
not_at_zero s = let at = s.at in let is = s.is in absurd cc

not_stored : WasStored (read_back Byte) Stack 511 (3 ∷ 0 ∷ []) → ⊥
not_stored (inl s) = not_at_three s
not_stored (inr s) = elim s [ inl t ↦ not_at_zero t | inr t ↦ t ]

pub other_byte_is_not_plain : IsPlain (read_back Byte) (with_sizes 0 0 0 0) → ⊥
unfolding instruction_at
other_byte_is_not_plain plain =
    let loads = plain.loading 4 _ _ refl refl in
    elim loads.span.through [
      | inl direct ↦
          let stack = ten_is_stack loads.span.window direct.0 in
          let begins = rw stack at loads.span.begins in
          let first : loads.span.first ≡ 511 = cc in
          let stored = rw stack at loads.stored in
          let further = direct.1 in
          not_stored (stored 511 tt (omega (arith, first)) (omega (arith, first, further)) (3 ∷ 0 ∷ []) to_load)
      | inr masked ↦ not_masked loads.span.window loads.span.further masked
    ]
