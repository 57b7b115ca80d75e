-- Runs of bytes that have a property.
use Rattle.std.proofs.Common.{◌≡◌, ℕ, suc, ◌≤◌, List, [], ◌∷◌, ◌++◌, length, refl, ap, arith, true, Bool, inl, inr}
use Rattle.std.specs.Prelude.{not, nat_lt, unwrap_or}
use Rattle.std.specs.List.{AllByRecursion, position, position_or_len}
use Rattle.std.proofs.lemmas.Bool.Decides.{nat_tests}
use Rattle.bpf_model.proofs.Options.{test_of}
use Rattle.bpf_assembler.specs.Operands.{run}

first_without : (has : ℕ → Bool) (xs : List ℕ) → position_or_len (λ c. not (has c)) xs ≡ run has xs
unfolding run
first_without has [] = refl
first_without has (c ∷ cs) = elim (test_of (has c)) [
  | inl e ↦ rw e (omega (arith, first_without has cs))
  | inr e ↦ rw e refl
]

run-within : (has : ℕ → Bool) (xs : List ℕ) → run has xs ≤ length xs
unfolding run
run-within has [] = omega arith
run-within has (c ∷ cs) = elim (test_of (has c)) [
  | inl e ↦ rw e (omega (arith, run-within has cs))
  | inr e ↦ rw e (omega arith)
]

-- up to the first that doesn't have it, or else all of them
pub run-position : (has : ℕ → Bool) (xs : List ℕ) → unwrap_or (position (λ c. not (has c)) xs) (length xs) ≡ run has xs
run-position has xs = elim (test_of (nat_lt (run has xs) (length xs))) [
  | inl e ↦ rw (first_without has xs, e) refl
  | inr e ↦
      let all : length xs ≤ run has xs = grind (arith, nat_tests) in
      rw (first_without has xs, e) (omega (arith, all, run-within has xs))
]

-- splits off a front of such bytes, if the next byte is of another kind
pub run-front : (has : ℕ → Bool) (xs rest : List ℕ) → AllByRecursion (λ c. has c ≡ true) xs → run has rest ≡ 0 → run has (xs ++ rest) ≡ length xs
unfolding run
run-front has [] rest all stops = stops
run-front has (c ∷ xs) rest all stops = rw all.0 (ap suc (run-front has xs rest all.1 stops))
