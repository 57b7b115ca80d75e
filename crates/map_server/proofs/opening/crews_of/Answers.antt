use Rattle.std.proofs.Common.{All, List, sym, subst}
use Rattle.std.proofs.lemmas.List.Elements.{All-push}
use Rattle.crews.specs.Crews.{IsCrewOf}
use Rattle.crews.specs.declared.crew.Crew.{Crew}
use Rattle.map_server.proofs.ServerLemmas.{next_asked}
use Rattle.map_server.proofs.ServerRunLemmas.{next_left}
use Rattle.map_server.proofs.opening.crews_of.Goals as goal

pub loop-worker-preserved : goal.loop-worker-preserved
loop-worker-preserved c =
    let kept = c.loop-worker.invariant in
    let crew = c.in_ok-next_crew.ensures in
    let of : List Crew → Type 0 = λ crews. All (λ crew. IsCrewOf c.args.map.now crew) crews in record {
      serve = crew.serve;
      passes = next_left c.args.workers c.loop-worker.worker c.args.team _ _ c.loop-worker-test.true kept.passes crew.left;
      crews = subst of (sym c.in_ok-push.ensures.items) (All-push (λ crew. IsCrewOf c.args.map.now crew) _ _ kept.crews crew.crew);
      asked = next_asked _ _ _ _ _ kept.asked crew.worker crew.team c.in_ok-push.ensures.items;
    }
