use Rattle.std.proofs.Common.{◌≡◌, [], None, ℕ, ◌+◌, refl, sym, ap, subst, arith}
use Rattle.server_state.specs.Passwords.{lent}
use Rattle.bin_stripes.specs.Passes.{PassState}
use Rattle.slab.specs.Slab.{slab_len}
use Rattle.crews.specs.Lives.{known}
use Rattle.crews.specs.Stations.{KeptTokens}
use Rattle.crews.specs.Seats.{IsAttended}
use Rattle.crews.proofs.CountLemmas.{counts_by, counts_on}
use Rattle.crews.proofs.SeatLemmas.{arrived, one_comes, room_made}
use Rattle.crews.proofs.attending.Attendant.take_in.Goals as goal

pub turn_away-requires : goal.turn_away-requires
turn_away-requires g c = record { came = (c.args.channel, subst (λ (p : PassState). g.P.Clients.gave p c.args.channel c.args.protocol) (sym c.pass.ensures) c.requires.gave, refl); none = c.requires.none }

pub turn_away-requires-in_default-reserve : goal.turn_away-requires-in_default-reserve
turn_away-requires-in_default-reserve g c = record { came = (c.args.channel, subst (λ (p : PassState). g.P.Clients.gave p c.args.channel c.args.protocol) (sym c.pass-in_default-reserve.ensures) c.requires.gave, refl); none = c.requires.none }

pub turn_away-requires-in_default-watch : goal.turn_away-requires-in_default-watch
turn_away-requires-in_default-watch g c = record { came = (c.args.channel, subst (λ (p : PassState). g.P.Clients.gave p c.args.channel c.args.protocol) (sym c.pass-in_default-watch.ensures) c.requires.gave, c.watch.ensures.channel); none = c.requires.none }

pub returns-in_default-clause-there : goal.returns-in_default-clause-there
returns-in_default-clause-there g c =
    let n = slab_len c.args.self.now.seats in
    counts_by (g.P.Clients.there c.args.tokens.registry) c.args.clients.now c.turn_away.new.clients 1 0 n (n + 1) n (omega arith) (omega arith) c.turn_away.ensures

pub returns-in_default-reserve-clause-there : goal.returns-in_default-reserve-clause-there
returns-in_default-reserve-clause-there g c =
    let n = slab_len c.args.self.now.seats in
    let same = ap slab_len c.reserve.ensures.rest_kept in
    counts_by (g.P.Clients.there c.args.tokens.registry) c.args.clients.now c.turn_away-in_default-reserve.new.clients 1 0 n (n + 1) (slab_len c.reserve.new.self) (omega arith) (omega (arith, same)) c.turn_away-in_default-reserve.ensures

pub returns-in_default-watch-clause-there : goal.returns-in_default-watch-clause-there
returns-in_default-watch-clause-there g c =
    let n = slab_len c.args.self.now.seats in
    let same = ap slab_len c.reserve.ensures.rest_kept in
    counts_on (g.P.Clients.there c.args.tokens.registry) c.args.clients.now c.watch.new.self c.turn_away-in_default-watch.new.clients (n + 1) (n + 1) (slab_len c.reserve.new.self)
    (counts_by (g.P.Clients.there c.args.tokens.registry) c.args.clients.now c.watch.new.self 0 0 (n + 1) (n + 1) (n + 1) (omega arith) (omega arith) (c.watch.ensures.there c.args.tokens.registry))
    (counts_by (g.P.Clients.there c.args.tokens.registry) c.watch.new.self c.turn_away-in_default-watch.new.clients 1 0 n (n + 1) (slab_len c.reserve.new.self) (omega arith) (omega (arith, same)) c.turn_away-in_default-watch.ensures)

pub returns-clause-there : goal.returns-clause-there
returns-clause-there g c =
    let n = slab_len c.args.self.now.seats in
    let same = ap slab_len c.reserve.ensures.rest_kept in
    counts_by (g.P.Clients.there c.args.tokens.registry) c.args.clients.now c.watch.new.self 0 0 (n + 1) (n + 1) (slab_len c.insert_reserved.new.self) (omega arith) (omega (arith, same, c.insert_reserved.ensures.len)) (c.watch.ensures.there c.args.tokens.registry)

pub returns-in_default-reserve-clause-attended : goal.returns-in_default-reserve-clause-attended
returns-in_default-reserve-clause-attended g c old turns attended =
    let s = c.args.self.now in
    room_made g.C.Channel.state g.P.Clients.gave c.args.tokens.registry (lent c.args.password) old turns (known s.room.serving) s.came s.seats c.reserve.new.self c.reserve.ensures.rest_kept attended

pub returns-in_default-watch-clause-attended : goal.returns-in_default-watch-clause-attended
returns-in_default-watch-clause-attended g c old turns attended =
    let s = c.args.self.now in
    room_made g.C.Channel.state g.P.Clients.gave c.args.tokens.registry (lent c.args.password) old turns (known s.room.serving) s.came s.seats c.reserve.new.self c.reserve.ensures.rest_kept attended

pub returns-clause-attended : goal.returns-clause-attended
returns-clause-attended g c old turns attended =
    let s = c.args.self.now in
    let client_is = subst (λ (t : KeptTokens). c.new-client.result ≡ record { number = s.came; channel = c.watch.new.channel; talk = c.new-talk.result; tokens = t; owed = record { rest = []; failures = 0 }; leaving = None }) c.requires.none c.new-client.ensures in
    let one : c.in-Some.came ≡ s.came + 1 = omega (arith, c.in-Some.ensures) in
    subst (λ (n : ℕ). IsAttended g.C.Channel.state g.P.Clients.gave c.args.tokens.registry (lent c.args.password) old turns (known s.room.serving) n c.insert_reserved.new.self) (sym one)
    (one_comes g.C.Channel.state g.P.Clients.gave c.args.tokens.registry (lent c.args.password) old turns (known s.room.serving) s.came c.next_number.result s.seats c.reserve.new.self c.insert_reserved.new.self c.insert_reserved.result (arrived c.args.channel c.args.protocol) c.watch.new.channel c.new-talk.result c.new-client.result
    c.requires.gave c.watch.ensures.channel c.new-talk.ensures client_is c.reserve.ensures.rest_kept c.insert_reserved.ensures.updates attended)
