-- Conditions of words, by the readings of the words themselves.
use Rattle.std.proofs.Common.{◌≡◌, ℕ, ◌%◌, ◌^◌, refl, arith}
use Rattle.bpf_model.specs.declared.operations.Width.TheVariants.{W64}
use Rattle.bpf_model.specs.declared.conditions.Condition.{Condition}
use Rattle.bpf_model.specs.Words.{IsWord, signed}
use Rattle.bpf_model.specs.Conditions.{compare, holds}

pub holds_double : (condition : Condition) (x y : ℕ) → IsWord x → IsWord y → holds condition W64 x y ≡ compare condition x y (signed x) (signed y)
holds_double condition x y p q =
    let i : x % 2 ^ 64 ≡ x = omega arith in
    let j : y % 2 ^ 64 ≡ y = omega arith in
    rw (i, j) refl
