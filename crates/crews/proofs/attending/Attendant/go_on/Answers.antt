use Rattle.std.proofs.Common.{◌+◌, sym, arith}
use Rattle.slab.specs.Slab.{slab_len}
use Rattle.crews.specs.Lives.{known}
use Rattle.crews.proofs.CountLemmas.{counts_by}
use Rattle.crews.proofs.SeatLemmas.{seat_taken}
use Rattle.crews.proofs.attending.Attendant.go_on.Goals as goal

pub part-requires : goal.part-requires
part-requires g c =
    let (registry, password, old, turns, is) = c.requires.client in
    (registry, password, old, turns, known c.args.self.now.room.serving, c.args.self.now.came, sym c.pass.ensures, is)

pub returns-then-has_left-clause-there : goal.returns-then-has_left-clause-there
returns-then-has_left-clause-there g c =
    let n = slab_len c.args.self.now.seats in
    counts_by (g.P.Clients.there c.args.client.tokens.registry) c.args.clients.now c.part.new.clients 1 0 n (n + 1) n (omega arith) (omega arith) c.part.ensures.there

pub returns-then-has_left-clause-attended : goal.returns-then-has_left-clause-attended
returns-then-has_left-clause-attended g c registry password old turns attended none is = attended

pub returns-clause-there : goal.returns-clause-there
returns-clause-there g c =
    let n = slab_len c.args.self.now.seats in
    counts_by (g.P.Clients.there c.args.client.tokens.registry) c.args.clients.now c.served.new.self 0 0 (n + 1) (n + 1) (slab_len c.insert_reserved.new.self) (omega arith) (omega (arith, c.insert_reserved.ensures.len)) (c.served.ensures c.args.client.tokens.registry)

pub returns-clause-attended : goal.returns-clause-attended
returns-clause-attended g c registry password old turns attended none is =
    let s = c.args.self.now in
    seat_taken g.C.Channel.state g.P.Clients.gave registry password old turns (known s.room.serving) s.came s.seats c.insert_reserved.new.self c.insert_reserved.result c.args.client c.insert_reserved.ensures.updates attended none is
