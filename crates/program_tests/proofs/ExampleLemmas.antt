-- A program that is proved not to be plain.
use Rattle.std.proofs.Common.{◌≡◌, ℕ, ◌<◌, ◌⊎◌, [], ◌∷◌, Some, refl, sym, subst, ◌∙◌, inl, inr, arith, ℤ, pos, negsuc}
use Rattle.bpf_model.specs.declared.window.Window.TheVariants.{Result}
use Rattle.bpf_model.specs.Program.{instruction_at}
use Rattle.verifier.specs.Paths.{WasStored, StoresByte, IsPathTo}
use Rattle.verifier.specs.Plain.{constant_of, IsPlain}
use Rattle.program_tests.specs.Examples.{with_sizes, one_byte_at}

second_unit : IsPathTo (one_byte_at (pos 1)) (1 ∷ 0 ∷ []) 2
unfolding instruction_at
second_unit = (inl (_, (refl, (refl, refl))), (inl (_, (refl, (refl, refl))), refl))

constant_at_one : (c : ℤ) → instruction_at (one_byte_at (pos 1)) 1 ≡ Some (constant_of c) → c ≡ pos 1
unfolding instruction_at
constant_at_one c e = cc

not_at_one : StoresByte (one_byte_at (pos 1)) 1 Result 0 → ⊥
unfolding instruction_at
not_at_one s = let at = s.at in let is = s.is in absurd cc

not_at_zero : StoresByte (one_byte_at (pos 1)) 0 Result 0 → ⊥
unfolding instruction_at
not_at_zero s =
    let at = s.at in
    let offset : s.t.offset ≡ pos 1 = let is = s.is in cc in
    let begins = rw offset at s.begins in
    let first : s.first ≡ 1 = cc in
    let from = s.from in
    absurd (omega (arith, from, first))

is_one : (n : ℕ) → pos 1 ≡ pos n → 0 < n
is_one n e = let is : n ≡ 1 = cc in omega (arith, is)

not_answered : (c : ℤ) → c ≡ pos 1 → (c ≡ negsuc 0) ⊎ ((n : ℕ) × ((c ≡ pos n) × ((j : ℕ) → j < n → WasStored (one_byte_at (pos 1)) Result j (1 ∷ 0 ∷ [])))) → ⊥
not_answered c is (inl e) = absurd cc
not_answered c is (inr e) =
    elim (e.1.1 0 (is_one e.0 (sym is ∙ e.1.0))) [
      | inl s ↦ not_at_one s
      | inr s ↦ elim s [ inl t ↦ not_at_zero t | inr t ↦ t ]
    ]

pub gap_is_not_plain : IsPlain (one_byte_at (pos 1)) (with_sizes 0 0 0 2) → ⊥
unfolding instruction_at
gap_is_not_plain plain =
    let exits = plain.exiting 2 refl in
    let before : exits.before ≡ 1 = let is = exits.is in omega (arith, is) in
    let moves : instruction_at (one_byte_at (pos 1)) 1 ≡ Some (constant_of exits.answer) = subst (λ (u : ℕ). instruction_at (one_byte_at (pos 1)) u ≡ Some (constant_of exits.answer)) before exits.moves in
    not_answered exits.answer (constant_at_one exits.answer moves) (exits.plain (1 ∷ 0 ∷ []) second_unit)
