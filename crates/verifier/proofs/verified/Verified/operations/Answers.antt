use Rattle.std.proofs.Common.{◌∙◌, List, length, sym, ap, subst}
use Rattle.bound_operations.specs.declared.operation.Operation.{Operation}
use Rattle.verifier.specs.Checked.{Checked}
use Rattle.verifier.specs.Bound.{AreBound}
use Rattle.verifier.proofs.verified.Verified.operations.Goals as goal

pub returns-clause-bound : goal.returns-clause-bound
returns-clause-bound c =
    let v = c.self.inside in
    let bound = subst (λ (xs : List Operation). AreBound v.program xs v.sizes) (sym c.deref.ensures.value) c.self.invariant.2 in
    subst (λ (checked : Checked). AreBound checked.program c.deref.result.now checked.sizes) c.self.view_is bound

pub returns-clause-one_each : goal.returns-clause-one_each
returns-clause-one_each c =
    ap length c.deref.ensures.value ∙ c.self.invariant.3 ∙ ap (λ (checked : Checked). length checked.program) c.self.view_is
