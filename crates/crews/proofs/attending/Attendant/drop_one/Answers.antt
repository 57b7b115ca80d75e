use Rattle.std.proofs.Common.{sym, arith}
use Rattle.slab.specs.Slab.{slab_len}
use Rattle.crews.specs.Lives.{known}
use Rattle.crews.proofs.CountLemmas.{counts_by, counts_of, still_empty}
use Rattle.crews.proofs.SeatLemmas.{client_in, client_of, seat_left}
use Rattle.crews.proofs.attending.Attendant.drop_one.Goals as goal

pub part-requires : goal.part-requires
part-requires g c =
    let s = c.args.self.now in
    let (registry, password, old, turns, attended) = c.requires.attended in (
      registry,
      password,
      old,
      turns,
      known s.room.serving,
      s.came,
      sym c.pass.ensures,
      client_in g.C.Channel.state g.P.Clients.gave registry password old turns (known s.room.serving) s.came s.seats c.args.seat c.in-Some.client attended c.in-Some.ensures.value,
    )

pub returns-clause-gone : goal.returns-clause-gone
returns-clause-gone g c = c.in-Some.ensures.updates.changed

pub returns-clause-others : goal.returns-clause-others
returns-clause-others g c other empty = still_empty c.args.self.now.seats c.try_remove.new.self c.args.seat other c.in-Some.ensures.updates empty

pub returns-clause-there : goal.returns-clause-there
returns-clause-there g c registry password old turns attended =
    let s = c.args.self.now in
    let client = c.in-Some.client in
    let of = client_of g.C.Channel.state g.P.Clients.gave registry password old turns (known s.room.serving) s.came client (client_in g.C.Channel.state g.P.Clients.gave registry password old turns (known s.room.serving) s.came s.seats c.args.seat client attended c.in-Some.ensures.value) in
    let n = slab_len c.try_remove.new.self in
    counts_by (g.P.Clients.there registry) c.args.clients.now c.part.new.clients 1 0 n (slab_len c.args.self.now.seats) n (omega (arith, c.in-Some.ensures.len)) (omega arith) (counts_of g.P.Clients.there client.tokens.registry registry c.args.clients.now c.part.new.clients 1 0 of c.part.ensures.there)

pub returns-clause-attended : goal.returns-clause-attended
returns-clause-attended g c registry password old turns attended =
    let s = c.args.self.now in
    seat_left g.C.Channel.state g.P.Clients.gave registry password old turns (known s.room.serving) s.came s.seats c.try_remove.new.self c.args.seat c.in-Some.ensures.updates attended
