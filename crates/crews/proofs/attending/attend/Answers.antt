use Rattle.std.proofs.Common.{◌≡◌, ◌∙◌, [], refl, sym, ap, subst, All, count_by, is_some, arith}
use Rattle.atomic_table.specs.Seated.{TableId}
use Rattle.bin_stripes.specs.declared.pass.Pass.{Pass}
use Rattle.crews.specs.Crews.{team_numbers}
use Rattle.crews.specs.Lives.{Known, known, known_at, Life}
use Rattle.crews.specs.Stations.{Station}
use Rattle.slab.specs.Slab.{slab_len}
use Rattle.crews.proofs.CountLemmas.{counts_by, counts_on}
use Rattle.crews.proofs.LifeLemmas.{known_same}
use Rattle.crews.proofs.SeatLemmas.{begins}
use Rattle.crews.proofs.attending.attend.Goals as goal

pub attend_all-requires-clause-attended : goal.attend_all-requires-clause-attended
attend_all-requires-clause-attended g c κs within =
    let start = known_at c.args.state.now.is_strict c.args.crew in
    let first = c.begun-attendant.result in
    let is = c.begun-attendant.ensures in
    (start, [], begins g.C.Channel.state g.P.Clients.gave c.args.worker.now.registry.now c.args.state.now.password start (known first.room.serving) first.came is.knows is.came first.seats is.empty)

pub attend_all-requires-clause-serves : goal.attend_all-requires-clause-serves
attend_all-requires-clause-serves g c κs within =
    subst (λ (id : TableId). g.P.Clients.serves id) (sym (ap (λ (k : Known). k.pass.map) c.begun-attendant.ensures.knows ∙ c.requires.crew.pass)) c.requires.serves

pub attend_all-requires-clause-desk : goal.attend_all-requires-clause-desk
attend_all-requires-clause-desk g c κs within =
    ap (λ (k : Known). k.pass.map) c.begun-attendant.ensures.knows ∙ c.requires.crew.pass ∙ sym c.begun-attendant.ensures.desk

pub drop_all-requires : goal.drop_all-requires
drop_all-requires g c =
    let start = known_at c.args.state.now.is_strict c.args.crew in
    let first = c.begun-attendant.result in
    let is = c.begun-attendant.ensures in
    let (more, now) = c.attend_all.ensures.attended start [] (begins g.C.Channel.state g.P.Clients.gave c.args.worker.now.registry.now c.args.state.now.password start (known first.room.serving) first.came is.knows is.came first.seats is.empty) in
    record { attended = (c.args.worker.now.registry.now, c.args.state.now.password, start, more, now) }

pub returns-clause-life : goal.returns-clause-life
returns-clause-life g c =
    let start = known_at c.args.state.now.is_strict c.args.crew in
    let first = c.begun-attendant.result in
    let is = c.begun-attendant.ensures in
    let (more, now) = c.attend_all.ensures.attended start [] (begins g.C.Channel.state g.P.Clients.gave c.args.worker.now.registry.now c.args.state.now.password start (known first.room.serving) first.came is.knows is.came first.seats is.empty) in
    let (life, seated) = c.drop_all.ensures.attended c.args.worker.now.registry.now c.args.state.now.password start more now in
    let end = c.drop_all.new.self in (
      more,
      end.came,
      subst (λ (k : Known). Life g.C.Channel.state g.P.Clients.gave c.args.worker.now.registry.now c.args.state.now.password start more k end.came) (sym (known_same (record { pass = c.serving.inside.pass; team = c.in-Ok.team.passes.items; is_strict = c.args.state.now.is_strict }) (known end.room.serving)
          (ap (λ (t : Station). t.pass) c.serving.view_is) (ap (λ ps. ps.items) c.in-Ok.ensures.team ∙ ap (λ (t : Station). t.team) c.serving.view_is) (sym life.numbers.strict))) life,
    )

pub returns-clause-crew : goal.returns-clause-crew
returns-clause-crew g c =
    let start = known_at c.args.state.now.is_strict c.args.crew in
    let first = c.begun-attendant.result in
    let is = c.begun-attendant.ensures in
    let (more, now) = c.attend_all.ensures.attended start [] (begins g.C.Channel.state g.P.Clients.gave c.args.worker.now.registry.now c.args.state.now.password start (known first.room.serving) first.came is.knows is.came first.seats is.empty) in
    let (life, seated) = c.drop_all.ensures.attended c.args.worker.now.registry.now c.args.state.now.password start more now in
    let pass = ap (λ (t : Station). t.pass.map) c.serving.view_is ∙ life.numbers.map_is ∙ c.requires.crew.pass in
    let here : c.serving.inside.map.now ≡ c.args.worker.now.map.now = sym c.serving.invariant.0 ∙ pass in
    record {
      pass = pass;
      team = subst (λ ps. All (λ (member : Pass). member.map ≡ c.args.worker.now.map.now) ps.items) (sym c.in-Ok.ensures.team)
          (subst (λ (id : TableId). All (λ (member : Pass). member.map ≡ id) c.serving.inside.team.items) here c.serving.invariant.1);
    }

pub returns-clause-same : goal.returns-clause-same
returns-clause-same g c =
    let start = known_at c.args.state.now.is_strict c.args.crew in
    let first = c.begun-attendant.result in
    let is = c.begun-attendant.ensures in
    let (more, now) = c.attend_all.ensures.attended start [] (begins g.C.Channel.state g.P.Clients.gave c.args.worker.now.registry.now c.args.state.now.password start (known first.room.serving) first.came is.knows is.came first.seats is.empty) in
    let (life, seated) = c.drop_all.ensures.attended c.args.worker.now.registry.now c.args.state.now.password start more now in
    record {
      worker = refl;
      pass = ap (λ (t : Station). t.pass.view.numbers) c.serving.view_is ∙ life.numbers.pass;
      team = ap (λ ps. team_numbers ps.items) c.in-Ok.ensures.team ∙ ap (λ (t : Station). team_numbers t.team) c.serving.view_is ∙ life.numbers.team;
    }

pub returns-clause-there : goal.returns-clause-there
returns-clause-there g c =
    let there = g.P.Clients.there c.args.worker.now.registry.now in
    let start = slab_len c.begun-attendant.result.seats in
    let mid = slab_len c.attend_all.new.self.seats in
    let end = slab_len c.drop_all.new.self.seats in
    let first = c.begun-attendant.result in
    let is = c.begun-attendant.ensures in
    let (more, now) = c.attend_all.ensures.attended (known_at c.args.state.now.is_strict c.args.crew) [] (begins g.C.Channel.state g.P.Clients.gave c.args.worker.now.registry.now c.args.state.now.password (known_at c.args.state.now.is_strict c.args.crew) (known first.room.serving) first.came is.knows is.came first.seats is.empty) in
    let none = ap (count_by is_some) c.begun-attendant.ensures.empty in
    counts_by there c.args.clients.now c.drop_all.new.clients start end 0 0 0 (omega (arith, none)) (omega (arith, c.drop_all.ensures.empty))
    (counts_on there c.args.clients.now c.attend_all.new.clients c.drop_all.new.clients start mid end c.attend_all.ensures.there (c.drop_all.ensures.there c.args.worker.now.registry.now c.args.state.now.password (known_at c.args.state.now.is_strict c.args.crew) more now))
