use Rattle.std.proofs.Common.{◌+◌, sym, arith}
use Rattle.slab.specs.Slab.{slab_len}
use Rattle.crews.specs.Lives.{known}
use Rattle.crews.proofs.CountLemmas.{counts_by, counts_of}
use Rattle.crews.proofs.SeatLemmas.{client_in, client_of, client_still, seat_left, seat_none}
use Rattle.crews.proofs.attending.Attendant.let_go.Goals as goal

pub part-requires : goal.part-requires
part-requires g c =
    let s = c.args.self.now in
    let (registry, password, old, turns, attended) = c.requires.attended in (
      registry,
      password,
      old,
      turns,
      known s.room.serving,
      s.came,
      sym c.pass.ensures,
      client_in g.C.Channel.state g.P.Clients.gave registry password old turns (known s.room.serving) s.came s.seats c.args.seat c.in-Some.client attended c.in-Some.ensures.value,
    )

pub go_on-requires-clause-client : goal.go_on-requires-clause-client
go_on-requires-clause-client g c =
    let state = g.C.Channel.state in
    let gave = g.P.Clients.gave in
    let s = c.args.self.now in
    let (registry, password, old, turns, attended) = c.requires.attended in (
      registry,
      password,
      old,
      turns,
      client_still state gave registry password old turns (known s.room.serving) s.came c.in-Some.client c.let_go-standing.new.self c.let_go-standing.ensures.number (c.let_go-standing.ensures.stands registry password)
          (client_in state gave registry password old turns (known s.room.serving) s.came s.seats c.args.seat c.in-Some.client attended c.in-Some.ensures.value),
    )

pub returns-then-is_some-clause-there : goal.returns-then-is_some-clause-there
returns-then-is_some-clause-there g c registry password old turns attended =
    let s = c.args.self.now in
    let client = c.in-Some.client in
    let of = client_of g.C.Channel.state g.P.Clients.gave registry password old turns (known s.room.serving) s.came client (client_in g.C.Channel.state g.P.Clients.gave registry password old turns (known s.room.serving) s.came s.seats c.args.seat client attended c.in-Some.ensures.value) in
    let n = slab_len c.try_remove.new.self in
    counts_by (g.P.Clients.there registry) c.args.clients.now c.part.new.clients 1 0 n (slab_len c.args.self.now.seats) n (omega (arith, c.in-Some.ensures.len)) (omega arith) (counts_of g.P.Clients.there client.tokens.registry registry c.args.clients.now c.part.new.clients 1 0 of c.part.ensures.there)

pub returns-then-is_some-clause-attended : goal.returns-then-is_some-clause-attended
returns-then-is_some-clause-attended g c registry password old turns attended =
    let s = c.args.self.now in
    seat_left g.C.Channel.state g.P.Clients.gave registry password old turns (known s.room.serving) s.came s.seats c.try_remove.new.self c.args.seat c.in-Some.ensures.updates attended

pub returns-clause-there : goal.returns-clause-there
returns-clause-there g c registry password old turns attended =
    let state = g.C.Channel.state in
    let gave = g.P.Clients.gave in
    let s = c.args.self.now in
    let after = c.let_go-standing.new.self in
    let of = client_of state gave registry password old turns (known s.room.serving) s.came after (client_still state gave registry password old turns (known s.room.serving) s.came c.in-Some.client after c.let_go-standing.ensures.number (c.let_go-standing.ensures.stands registry password)
    (client_in state gave registry password old turns (known s.room.serving) s.came s.seats c.args.seat c.in-Some.client attended c.in-Some.ensures.value)) in
    let n = slab_len c.try_remove.new.self in
    counts_by (g.P.Clients.there registry) c.args.clients.now c.go_on.new.clients (n + 1) (slab_len c.go_on.new.self.seats) 0 (slab_len c.args.self.now.seats) (slab_len c.go_on.new.self.seats) (omega (arith, c.in-Some.ensures.len)) (omega arith) (counts_of g.P.Clients.there after.tokens.registry registry c.args.clients.now c.go_on.new.clients (n + 1) (slab_len c.go_on.new.self.seats) of c.go_on.ensures.there)

pub returns-clause-attended : goal.returns-clause-attended
returns-clause-attended g c registry password old turns attended =
    let state = g.C.Channel.state in
    let gave = g.P.Clients.gave in
    let s = c.args.self.now in
    c.go_on.ensures.attended registry password old turns
    (seat_left state gave registry password old turns (known s.room.serving) s.came s.seats c.try_remove.new.self c.args.seat c.in-Some.ensures.updates attended)
    (seat_none state gave registry password old turns (known s.room.serving) s.came s.seats c.try_remove.new.self c.args.seat c.in-Some.client c.let_go-standing.new.self c.in-Some.ensures.value c.in-Some.ensures.updates c.let_go-standing.ensures.number attended)
    (client_still state gave registry password old turns (known s.room.serving) s.came c.in-Some.client c.let_go-standing.new.self c.let_go-standing.ensures.number (c.let_go-standing.ensures.stands registry password)
    (client_in state gave registry password old turns (known s.room.serving) s.came s.seats c.args.seat c.in-Some.client attended c.in-Some.ensures.value))
