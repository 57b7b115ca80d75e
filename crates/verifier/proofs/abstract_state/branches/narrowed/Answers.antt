use Rattle.std.proofs.Common.{◌≡◌, true, refl, inl, inr}
use Rattle.bpf_model.specs.Conditions.{holds, opposite_of}
use Rattle.bpf_model.proofs.Options.{test_of}
use Rattle.bpf_model.proofs.ConditionLaws.{opposite_holds}
use Rattle.verifier.proofs.abstract_state.branches.narrowed.Goals as goal

pub returns-in-Either : goal.returns-in-Either
returns-in-Either c = λ x y first second lies.
    let condition = c.in-Either.condition in
    let width = c.args.width in
    elim (test_of (holds condition width x y)) [
      | inl holding ↦ c.either.ensures.first x y (c.refine-in-Either.ensures x y first second holding)
      | inr failing ↦
          let opposite : holds (opposite_of condition) width x y ≡ true = rw (opposite_holds condition width x y, failing) refl in
          c.either.ensures.second x y ((rw c.opposite.ensures at c.refine-in-Either-2.ensures) x y first second opposite)
    ]
