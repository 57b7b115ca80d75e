-- Two ways that meet: an answer that both store is plain, one that only one stores is not.
use Rattle.std.proofs.Common.{◌≡◌, ◌≢◌, ℕ, ◌<◌, ◌⊎◌, true, [], ◌∷◌, Some, refl, sym, subst, ◌∙◌, inl, inr, arith, ℤ, pos, negsuc}
use Rattle.bpf_model.specs.declared.window.Window.{Window}
use Rattle.bpf_model.specs.declared.window.Window.TheVariants.{Result}
use Rattle.bpf_model.specs.declared.instruction.Insn.TheVariants.{Exit}
use Rattle.bpf_model.specs.Program.{instruction_at}
use Rattle.bpf_model.specs.Fits.{AreWithinLimits}
use Rattle.verifier.specs.Instructions.{reads, written_by, Touch, load_of, store_of}
use Rattle.verifier.specs.Paths.{base_of, HasValueAtEntry, IsPathTo, OnEveryPath, WasWritten, WasStored, StoresByte}
use Rattle.verifier.specs.Plain.{constant_of, LoadsPlainly, StoresPlainly, IsPlainAnswer, ExitsPlainly, IsPlain}
use Rattle.program_tests.specs.Examples.{with_sizes, two_ways_with}
use Rattle.program_tests.proofs.TextLemmas.{AtEach, leads_there, sources}
use Rattle.program_tests.proofs.PlainLemmas.{zero_apart, none_apart, after_one, after_two, no_target, same_register, one_register, was_given, four_at_entry, six_at_entry, stores_first, plain_by_text}

limits : AreWithinLimits (with_sizes 64 8 8 8)
limits = record { key = omega arith; old = omega arith; arg = omega arith; result = omega arith }

to_one : (c : ℤ) → sources (two_ways_with c) 0 1 ≡ (0 ∷ [])
unfolding leads_there
to_one c = refl

to_two : (c : ℤ) → sources (two_ways_with c) 0 2 ≡ (1 ∷ [])
unfolding leads_there
to_two c = refl

to_four : (c : ℤ) → sources (two_ways_with c) 0 4 ≡ (2 ∷ 3 ∷ [])
unfolding leads_there
to_four c = refl

to_five : (c : ℤ) → sources (two_ways_with c) 0 5 ≡ (4 ∷ [])
unfolding leads_there
to_five c = refl

bases : AtEach (two_ways_with (pos 4)) 0 (λ u i. (w : Window) → written_by i ≢ Some (base_of w))
bases = (none_apart, (none_apart, (none_apart, (none_apart, (zero_apart, (none_apart, tt))))))

answer_written : OnEveryPath (two_ways_with (pos 4)) 5 (WasWritten (two_ways_with (pos 4)) 0)
unfolding instruction_at
answer_written = after_one (two_ways_with (pos 4)) 5 4 (WasWritten (two_ways_with (pos 4)) 0) (λ e. absurd cc) (to_five (pos 4)) (λ before comes. inl (_, (refl, refl)))

given : (u k r : ℕ) → HasValueAtEntry k → k ≡ r → OnEveryPath (two_ways_with (pos 4)) u (WasWritten (two_ways_with (pos 4)) r)
given u k r has is = subst (λ (x : ℕ). OnEveryPath (two_ways_with (pos 4)) u (WasWritten (two_ways_with (pos 4)) x)) is (was_given (two_ways_with (pos 4)) u k has)

reading : AtEach (two_ways_with (pos 4)) 0 (λ u i. (r : ℕ) → reads i r ≡ true → OnEveryPath (two_ways_with (pos 4)) u (WasWritten (two_ways_with (pos 4)) r))
reading = (
  λ r h. given 0 6 r six_at_entry (one_register 6 r h),
  (
    λ r h. given 1 4 r four_at_entry (one_register 4 r h),
    (
      λ r h. absurd cc,
      (
        λ r h. given 3 4 r four_at_entry (one_register 4 r h),
        (
          λ r h. absurd cc,
          (λ r h. subst (λ (x : ℕ). OnEveryPath (two_ways_with (pos 4)) 5 (WasWritten (two_ways_with (pos 4)) x)) (same_register 0 r h) answer_written, tt),
        ),
      ),
    ),
  ),
)

loading : AtEach (two_ways_with (pos 4)) 0 (λ u i. (t : Touch) → load_of i ≡ Some t → LoadsPlainly (two_ways_with (pos 4)) (with_sizes 64 8 8 8) u t)
loading = (λ t e. absurd cc, (λ t e. absurd cc, (λ t e. absurd cc, (λ t e. absurd cc, (λ t e. absurd cc, (λ t e. absurd cc, tt))))))

storing : AtEach (two_ways_with (pos 4)) 0 (λ u i. (t : Touch) → store_of i ≡ Some t → StoresPlainly (two_ways_with (pos 4)) (with_sizes 64 8 8 8) u t)
storing = (
  λ t e. absurd cc,
  (
    λ t e.
        let base : t.base ≡ 4 = cc in
        let offset : t.offset ≡ pos 0 = cc in
        let count : t.count ≡ 8 = cc in
        stores_first (two_ways_with (pos 4)) (with_sizes 64 8 8 8) 1 t base offset (omega (arith, count)),
    (
      λ t e. absurd cc,
      (
        λ t e.
            let base : t.base ≡ 4 = cc in
            let offset : t.offset ≡ pos 0 = cc in
            let count : t.count ≡ 4 = cc in
            stores_first (two_ways_with (pos 4)) (with_sizes 64 8 8 8) 3 t base offset (omega (arith, count)),
        (λ t e. absurd cc, (λ t e. absurd cc, tt)),
      ),
    ),
  ),
)

-- on one way eight bytes are stored, on the other four
stored_at_one : (j : ℕ) → j < 4 → StoresByte (two_ways_with (pos 4)) 1 Result j
unfolding instruction_at
stored_at_one j less = record { i = _; t = _; first = 0; at = refl; is = refl; through = refl; begins = refl; from = omega arith; to = omega (arith, less) }

stored_at_three : (j : ℕ) → j < 4 → StoresByte (two_ways_with (pos 4)) 3 Result j
unfolding instruction_at
stored_at_three j less = record { i = _; t = _; first = 0; at = refl; is = refl; through = refl; begins = refl; from = omega arith; to = less }

stored_on_both : (j : ℕ) → j < 4 → OnEveryPath (two_ways_with (pos 4)) 5 (WasStored (two_ways_with (pos 4)) Result j)
stored_on_both j less =
    after_one (two_ways_with (pos 4)) 5 4 (WasStored (two_ways_with (pos 4)) Result j) (λ e. absurd cc) (to_five (pos 4))
    (after_two (two_ways_with (pos 4)) 4 2 3 (λ before. WasStored (two_ways_with (pos 4)) Result j (4 ∷ before)) (λ e. absurd cc) (to_four (pos 4))
    (after_one (two_ways_with (pos 4)) 2 1 (λ before. WasStored (two_ways_with (pos 4)) Result j (4 ∷ 2 ∷ before)) (λ e. absurd cc) (to_two (pos 4))
    (λ before comes. inr (inr (inl (stored_at_one j less)))))
    (λ before comes. inr (inl (stored_at_three j less))))

answer : IsPlainAnswer (two_ways_with (pos 4)) 5 (pos 4)
answer = λ before comes. inr (4, (refl, λ j less. stored_on_both j less before comes))

exiting : AtEach (two_ways_with (pos 4)) 0 (λ u i. i ≡ Exit → ExitsPlainly (two_ways_with (pos 4)) u)
unfolding instruction_at
exiting = (
  λ e. absurd cc,
  (
    λ e. absurd cc,
    (
      λ e. absurd cc,
      (
        λ e. absurd cc,
        (
          λ e. absurd cc,
          (
            λ e. record { before = 4; answer = pos 4; is = refl; moves = refl; apart = no_target (two_ways_with (pos 4)) 5 4 (to_five (pos 4)) refl; plain = answer },
            tt,
          ),
        ),
      ),
    ),
  ),
)

pub bytes_of_both_ways_are_plain : IsPlain (two_ways_with (pos 4)) (with_sizes 64 8 8 8)
bytes_of_both_ways_are_plain = plain_by_text (two_ways_with (pos 4)) (with_sizes 64 8 8 8) limits bases reading loading storing exiting

-- the way on which four bytes are stored
short_way : IsPathTo (two_ways_with (pos 8)) (4 ∷ 3 ∷ 0 ∷ []) 5
unfolding instruction_at
short_way = (inl (_, (refl, (refl, refl))), (inl (_, (refl, (refl, refl))), (inr (pos 2, (refl, refl)), refl)))

constant_at_four : (c : ℤ) → instruction_at (two_ways_with (pos 8)) 4 ≡ Some (constant_of c) → c ≡ pos 8
unfolding instruction_at
constant_at_four c e = cc

not_at_four : StoresByte (two_ways_with (pos 8)) 4 Result 4 → ⊥
unfolding instruction_at
not_at_four s = let at = s.at in let is = s.is in absurd cc

not_at_three : StoresByte (two_ways_with (pos 8)) 3 Result 4 → ⊥
unfolding instruction_at
not_at_three s =
    let at = s.at in
    let offset : s.t.offset ≡ pos 0 = let is = s.is in cc in
    let count : s.t.count ≡ 4 = let is = s.is in cc in
    let begins = rw offset at s.begins in
    let first : s.first ≡ 0 = cc in
    let to = s.to in
    absurd (omega (arith, to, first, count))

not_at_zero : StoresByte (two_ways_with (pos 8)) 0 Result 4 → ⊥
unfolding instruction_at
not_at_zero s = let at = s.at in let is = s.is in absurd cc

is_eight : (n : ℕ) → pos 8 ≡ pos n → 4 < n
is_eight n e = let is : n ≡ 8 = cc in omega (arith, is)

not_answered : (c : ℤ) → c ≡ pos 8 → (c ≡ negsuc 0) ⊎ ((n : ℕ) × ((c ≡ pos n) × ((j : ℕ) → j < n → WasStored (two_ways_with (pos 8)) Result j (4 ∷ 3 ∷ 0 ∷ [])))) → ⊥
not_answered c is (inl e) = absurd cc
not_answered c is (inr e) =
    elim (e.1.1 4 (is_eight e.0 (sym is ∙ e.1.0))) [
      | inl s ↦ not_at_four s
      | inr s ↦ elim s [ inl t ↦ not_at_three t | inr t ↦ elim t [ inl v ↦ not_at_zero v | inr v ↦ v ] ]
    ]

pub bytes_of_one_way_are_not_plain : IsPlain (two_ways_with (pos 8)) (with_sizes 64 8 8 8) → ⊥
unfolding instruction_at
bytes_of_one_way_are_not_plain plain =
    let exits = plain.exiting 5 refl in
    let before : exits.before ≡ 4 = let is = exits.is in omega (arith, is) in
    let moves : instruction_at (two_ways_with (pos 8)) 4 ≡ Some (constant_of exits.answer) = subst (λ (u : ℕ). instruction_at (two_ways_with (pos 8)) u ≡ Some (constant_of exits.answer)) before exits.moves in
    not_answered exits.answer (constant_at_four exits.answer moves) (exits.plain (4 ∷ 3 ∷ 0 ∷ []) short_way)
