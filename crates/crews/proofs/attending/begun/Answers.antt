use Rattle.std.proofs.Common.{refl, ap, is_some}
use Rattle.crews.specs.Lives.{known_at}
use Rattle.crews.proofs.LifeLemmas.{known_same}
use Rattle.crews.proofs.attending.begun.Goals as goal

pub returns-clause-knows : goal.returns-clause-knows
returns-clause-knows g c =
    let crew = c.args.crew in
    known_same (record { pass = crew.pass; team = c.into_passes.result.items; is_strict = is_some c.if_strict.result }) (known_at c.args.state.now.is_strict crew) refl (ap (λ ps. ps.items) c.into_passes.ensures) c.if_strict.ensures
