use Rattle.std.proofs.Common.{List, All, sym, subst, arith}
use Rattle.crews.specs.declared.crew.Crew.{Crew}
use Rattle.crews.specs.Crews.{IsCrewOf}
use Rattle.map_server.proofs.PostLemmas.{crews_attended, as_many, posts_of_map, crews_of_map}
use Rattle.map_server.specs.ServerRuns.{HaveAttended}
use Rattle.map_server.proofs.posts.attend_all.Goals as goal

pub attend_each-requires-clause-crews : goal.attend_each-requires-clause-crews
attend_each-requires-clause-crews g c = λ κs lives. posts_of_map c.args.worker.now.map.now c.args.crews.items c.in_ok-posts.posts.items c.in_ok-posts.ensures c.requires.crews

pub crews_of-requires-clause-room : goal.crews_of-requires-clause-room
crews_of-requires-clause-room g c =
    omega (
      arith,
      c.in_ok-back.ensures.exact,
      c.len.ensures,
      c.args.crews.ok.0,
      c.in_ok-attended.attended.ok.0,
      as_many c.args.crews.items c.in_ok-posts.posts.items c.in_ok-attended.attended.items c.in_ok-posts.ensures c.in_ok-attended.ensures.same,
    )

pub returns-clause-lived : goal.returns-clause-lived
returns-clause-lived g c =
    subst (λ (all : List Crew). HaveAttended c.args.worker.now.registry.now c.args.entrance.now.state.now.password c.args.entrance.now.state.now.is_strict c.args.crews.items all) (sym c.crews_of.ensures)
    (crews_attended c.args.worker.now.registry.now c.args.entrance.now.state.now.password c.args.entrance.now.state.now.is_strict c.args.crews.items c.in_ok-posts.posts.items c.in_ok-attended.attended.items c.in_ok-posts.ensures c.in_ok-attended.ensures.same c.in_ok-attended.ensures.lived)

pub returns-clause-map : goal.returns-clause-map
returns-clause-map g c =
    subst (λ (all : List Crew). All (λ crew. IsCrewOf c.args.worker.now.map.now crew) all) (sym c.crews_of.ensures)
    (crews_of_map c.args.worker.now.map.now c.in_ok-attended.attended.items c.in_ok-attended.ensures.map)
