use Rattle.std.proofs.Common.{◌≡◌, ◌<◌, List, Option, Some, None, IsSome, length, map, refl, sym, subst, slice_index_or, rules}
use Rattle.crews.specs.declared.posts.Post.{Post}
use Rattle.crews.specs.Arrivals.{CountGoes}
use Rattle.crews.specs.Crews.{IsCrewOf, CarriesSame}
use Rattle.crews.specs.Lives.{HasLived}
use Rattle.crews.specs.Posts.{IsAttendedSeat}
use Rattle.crews.proofs.ThreadLemmas.{EachSeat, pairwise_of, all_of, each_seated, each_left}
use Rattle.crews.proofs.posts.attend_each.Goals as goal
use Rattle.crews.proofs.posts.attend_each.Goals.{In-Ok}

pub work-seats-requires-after_bounds : goal.work-seats-requires-after_bounds
work-seats-requires-after_bounds g c = λ κs lives i p low is.
    let seats = c.seated-seats.ensures in (
      (
        each_seated (λ post. IsCrewOf c.args.worker.now.map.now post.crew) c.args.posts.items i p.now c.requires.crews (subst (λ (all : List (Option (Post _ _))). i < length all) seats low)
            (subst (λ (all : List (Option (Post _ _))). p.now ≡ slice_index_or all i p.now) seats is),
        c.requires.serves,
      ),
      (
        search rules,
        record { shared = c.type_bounds.sync-H.shared },
        record { shared = c.type_bounds.sync-C.shared },
        record { shared = c.type_bounds.sync-P.shared },
        record { shared = c.type_bounds.sync-G.shared },
      ),
    )

-- what the workers did, seat by seat
attended : (g : _) (c : In-Ok g) → EachSeat (IsAttendedSeat g.C.Channel.state g.P.Clients.gave c.args.worker.now.registry.now c.args.state.now.password c.args.state.now.is_strict (g.P.Clients.there c.args.worker.now.registry.now) g.P.Clients.over c.args.worker.now.map.now) (map Some c.args.posts.items) c.work-seats.result.0.items
attended g c =
    let all = rw c.in-Ok.is at c.work-seats.ensures in
    let S = IsAttendedSeat g.C.Channel.state g.P.Clients.gave c.args.worker.now.registry.now c.args.state.now.password c.args.state.now.is_strict (g.P.Clients.there c.args.worker.now.registry.now) g.P.Clients.over c.args.worker.now.map.now in
    let left = c.work-seats.result.0.items in
    subst (λ seats. EachSeat S seats left) c.seated-seats.ensures (
      all.left,
      λ i d low.
          let one = all.each i d tt low in
          subst (λ old. S old (slice_index_or left i d)) one.argument_is (subst (λ new. S one.argument.now new) one.left one.call),
    )

attended_some : (g : _) (c : In-Ok g) (old new : Option (Post _ _)) → IsAttendedSeat g.C.Channel.state g.P.Clients.gave c.args.worker.now.registry.now c.args.state.now.password c.args.state.now.is_strict (g.P.Clients.there c.args.worker.now.registry.now) g.P.Clients.over c.args.worker.now.map.now old new → IsSome new
attended_some g c (Some old) (Some new) here = refl
attended_some g c (Some old) None here = absurd here
attended_some g c None new here = absurd here

pub attended_of-requires-clause-some : goal.attended_of-requires-clause-some
attended_of-requires-clause-some g c =
    each_left (IsAttendedSeat g.C.Channel.state g.P.Clients.gave c.args.worker.now.registry.now c.args.state.now.password c.args.state.now.is_strict (g.P.Clients.there c.args.worker.now.registry.now) g.P.Clients.over c.args.worker.now.map.now) (attended_some g c) (map Some c.args.posts.items) c.work-seats.result.0.items (attended g c)

-- and of those that are back
back : (g : _) (c : In-Ok g) (left : List (Post _ _)) → map Some left ≡ c.work-seats.result.0.items
    → EachSeat (IsAttendedSeat g.C.Channel.state g.P.Clients.gave c.args.worker.now.registry.now c.args.state.now.password c.args.state.now.is_strict (g.P.Clients.there c.args.worker.now.registry.now) g.P.Clients.over c.args.worker.now.map.now) (map Some c.args.posts.items) (map Some left)
back g c left is = subst (λ seats. EachSeat (IsAttendedSeat g.C.Channel.state g.P.Clients.gave c.args.worker.now.registry.now c.args.state.now.password c.args.state.now.is_strict (g.P.Clients.there c.args.worker.now.registry.now) g.P.Clients.over c.args.worker.now.map.now) (map Some c.args.posts.items) seats) (sym is) (attended g c)

pub returns-clause-same : goal.returns-clause-same
returns-clause-same g c =
    let c' = (goal.at.returns-clause-same g c).In-Ok in
    pairwise_of (IsAttendedSeat g.C.Channel.state g.P.Clients.gave c.args.worker.now.registry.now c.args.state.now.password c.args.state.now.is_strict (g.P.Clients.there c.args.worker.now.registry.now) g.P.Clients.over c.args.worker.now.map.now) (λ old new. CarriesSame old.crew new.crew) (λ old new here. here.same) c.args.posts.items c.attended_of.result.items (back g c' c.attended_of.result.items c.attended_of.ensures)

pub returns-clause-map : goal.returns-clause-map
returns-clause-map g c =
    let c' = (goal.at.returns-clause-map g c).In-Ok in
    all_of (IsAttendedSeat g.C.Channel.state g.P.Clients.gave c.args.worker.now.registry.now c.args.state.now.password c.args.state.now.is_strict (g.P.Clients.there c.args.worker.now.registry.now) g.P.Clients.over c.args.worker.now.map.now) (λ post. IsCrewOf c.args.worker.now.map.now post.crew) (λ old new here. here.map) c.args.posts.items c.attended_of.result.items (back g c' c.attended_of.result.items c.attended_of.ensures)

pub returns-clause-lived : goal.returns-clause-lived
returns-clause-lived g c =
    let c' = (goal.at.returns-clause-lived g c).In-Ok in
    pairwise_of (IsAttendedSeat g.C.Channel.state g.P.Clients.gave c.args.worker.now.registry.now c.args.state.now.password c.args.state.now.is_strict (g.P.Clients.there c.args.worker.now.registry.now) g.P.Clients.over c.args.worker.now.map.now) (λ old new. HasLived g.C.Channel.state g.P.Clients.gave c.args.worker.now.registry.now c.args.state.now.password c.args.state.now.is_strict old.crew new.crew) (λ old new here. here.lived) c.args.posts.items c.attended_of.result.items (back g c' c.attended_of.result.items c.attended_of.ensures)

pub returns-clause-there : goal.returns-clause-there
returns-clause-there g c =
    let c' = (goal.at.returns-clause-there g c).In-Ok in
    pairwise_of (IsAttendedSeat g.C.Channel.state g.P.Clients.gave c.args.worker.now.registry.now c.args.state.now.password c.args.state.now.is_strict (g.P.Clients.there c.args.worker.now.registry.now) g.P.Clients.over c.args.worker.now.map.now) (λ old new. CountGoes (g.P.Clients.there c.args.worker.now.registry.now) old.clients 0 new.clients 0) (λ old new here. here.count) c.args.posts.items c.attended_of.result.items (back g c' c.attended_of.result.items c.attended_of.ensures)

pub returns-clause-over : goal.returns-clause-over
returns-clause-over g c =
    let c' = (goal.at.returns-clause-over g c).In-Ok in
    all_of (IsAttendedSeat g.C.Channel.state g.P.Clients.gave c.args.worker.now.registry.now c.args.state.now.password c.args.state.now.is_strict (g.P.Clients.there c.args.worker.now.registry.now) g.P.Clients.over c.args.worker.now.map.now) (λ post. g.P.Clients.over post.clients) (λ old new here. here.over) c.args.posts.items c.attended_of.result.items (back g c' c.attended_of.result.items c.attended_of.ensures)
