use Rattle.std.proofs.Common.{◌∙◌, sym}
use Rattle.std.proofs.lemmas.Result.{MatchResult-weaker}
use Rattle.verifier.proofs.abstract_state.kept.shared.Goals as goal

pub returns-then-is : goal.returns-then-is
returns-then-is c =
    let same = sym c.deref.ensures ∙ c.is.ensures.same c.if-is.true in
    record { value = MatchResult-weaker c.clone.result c.clone.ensures.cases (λ copy is. is ∙ same) (λ _ _. tt) }
