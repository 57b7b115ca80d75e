use Rattle.std.proofs.Common.{◌≡◌, ◌<◌, List, Option, Some, length, map, sym, subst, slice_index_or}
use Rattle.crews.specs.declared.crew.Crew.{Crew}
use Rattle.crews.specs.Crews.{IsCrewOf, IsServed, CarriesSame}
use Rattle.crews.specs.Served.{HasServedClients, CameBack}
use Rattle.crews.proofs.ServeLemmas.{served_some}
use Rattle.crews.proofs.ThreadLemmas.{EachSeat, pairwise_of, all_of, each_seated, each_left}
use Rattle.crews.proofs.server.serve.Goals as goal
use Rattle.crews.proofs.server.serve.Goals.{In-Ok}

pub work-seats-requires-after_bounds : goal.work-seats-requires-after_bounds
work-seats-requires-after_bounds g c = λ κs lives i p low is.
    let seats = c.seated-seats.ensures in (
      (
        each_seated (λ crew. IsCrewOf c.args.map.now crew) c.args.crews.items i p.now c.requires.crews (subst (λ (all : List (Option Crew)). i < length all) seats low)
            (subst (λ (all : List (Option Crew)). p.now ≡ slice_index_or all i p.now) seats is),
        c.requires.serves,
      ),
      (
        record { shared = c.type_bounds.sync-H.shared },
        record { shared = c.type_bounds.sync-R.shared },
        record { shared = c.type_bounds.sync-W.shared },
        record { shared = c.type_bounds.sync-A.shared },
        record { shared = c.type_bounds.sync-G.shared },
      ),
    )

-- what the workers did, seat by seat
served : (g : _) (c : In-Ok g) → EachSeat (IsServed c.args.map.now) (map Some c.args.crews.items) c.work-seats.result.0.items
served g c =
    let all = rw c.in-Ok.is at c.work-seats.ensures in
    let id = c.args.map.now in
    let left = c.work-seats.result.0.items in
    subst (λ (seats : List (Option Crew)). EachSeat (IsServed id) seats left) c.seated-seats.ensures (
      all.left,
      λ i d low.
          let one = all.each i d tt low in
          subst (λ (old : Option Crew). IsServed id old (slice_index_or left i d)) one.argument_is
          (subst (λ (new : Option Crew). IsServed id one.argument.now new) one.left one.call.0),
    )

-- and which sessions moved their crews
served_clients : (g : _) (c : In-Ok g) → EachSeat (HasServedClients g.R.Source.state g.W.Sink.state g.A.Accept.gave c.args.registry.now) (map Some c.args.crews.items) c.work-seats.result.0.items
served_clients g c =
    let all = rw c.in-Ok.is at c.work-seats.ensures in
    let left = c.work-seats.result.0.items in
    subst (λ (seats : List (Option Crew)). EachSeat (HasServedClients g.R.Source.state g.W.Sink.state g.A.Accept.gave c.args.registry.now) seats left) c.seated-seats.ensures (
      all.left,
      λ i d low.
          let one = all.each i d tt low in
          subst (λ (old : Option Crew). HasServedClients g.R.Source.state g.W.Sink.state g.A.Accept.gave c.args.registry.now old (slice_index_or left i d)) one.argument_is
          (subst (λ (new : Option Crew). HasServedClients g.R.Source.state g.W.Sink.state g.A.Accept.gave c.args.registry.now one.argument.now new) one.left one.call.1.0),
    )

-- and that nobody came any more
over : (g : _) (c : In-Ok g) → EachSeat (CameBack g.A.Accept.over) (map Some c.args.crews.items) c.work-seats.result.0.items
over g c =
    let all = rw c.in-Ok.is at c.work-seats.ensures in
    let left = c.work-seats.result.0.items in
    subst (λ (seats : List (Option Crew)). EachSeat (CameBack g.A.Accept.over) seats left) c.seated-seats.ensures (
      all.left,
      λ i d low.
          let one = all.each i d tt low in
          subst (λ (old : Option Crew). CameBack g.A.Accept.over old (slice_index_or left i d)) one.argument_is
          (subst (λ (new : Option Crew). CameBack g.A.Accept.over one.argument.now new) one.left one.call.1.1),
    )

pub left_of-requires-clause-some : goal.left_of-requires-clause-some
left_of-requires-clause-some g c =
    each_left (IsServed c.args.map.now) (served_some c.args.map.now) (map Some c.args.crews.items) c.work-seats.result.0.items (served g c)

pub returns-clause-same : goal.returns-clause-same
returns-clause-same g c =
    let c' = (goal.at.returns-clause-same g c).In-Ok in
    pairwise_of (IsServed c.args.map.now) CarriesSame (λ old new here. here.1) c.args.crews.items c.left_of.result.items
    (subst (λ (seats : List (Option Crew)). EachSeat (IsServed c.args.map.now) (map Some c.args.crews.items) seats) (sym c.left_of.ensures) (served g c'))

pub returns-clause-map : goal.returns-clause-map
returns-clause-map g c =
    let c' = (goal.at.returns-clause-map g c).In-Ok in
    all_of (IsServed c.args.map.now) (λ crew. IsCrewOf c.args.map.now crew) (λ old new here. here.0) c.args.crews.items c.left_of.result.items
    (subst (λ (seats : List (Option Crew)). EachSeat (IsServed c.args.map.now) (map Some c.args.crews.items) seats) (sym c.left_of.ensures) (served g c'))

pub returns-clause-served : goal.returns-clause-served
returns-clause-served g c =
    let c' = (goal.at.returns-clause-served g c).In-Ok in
    let Has = HasServedClients g.R.Source.state g.W.Sink.state g.A.Accept.gave c.args.registry.now in
    pairwise_of Has (λ old new. Has (Some old) (Some new)) (λ old new here. here) c.args.crews.items c.left_of.result.items
    (subst (λ (seats : List (Option Crew)). EachSeat Has (map Some c.args.crews.items) seats) (sym c.left_of.ensures) (served_clients g c'))

pub returns-clause-over : goal.returns-clause-over
returns-clause-over g c =
    let c' = (goal.at.returns-clause-over g c).In-Ok in
    all_of (CameBack g.A.Accept.over) g.A.Accept.over (λ old new here. here) c.args.crews.items c.left_of.result.items
    (subst (λ (seats : List (Option Crew)). EachSeat (CameBack g.A.Accept.over) (map Some c.args.crews.items) seats) (sym c.left_of.ensures) (over g c'))
