use Rattle.std.proofs.Common.{◌++◌, ◌∙◌, arith}
use Rattle.slab.specs.Slab.{slab_len, with_value}
use Rattle.crews.specs.Lives.{known}
use Rattle.crews.proofs.CountLemmas.{counts_by, counts_on, same_count}
use Rattle.crews.proofs.SeatLemmas.{client_in, client_open, client_unfailed, sat_turn}
use Rattle.crews.proofs.attending.Attendant.serve_one.Goals as goal

pub turn-standing-requires-clause-unfailed : goal.turn-standing-requires-clause-unfailed
turn-standing-requires-clause-unfailed g c κs within =
    let state = g.C.Channel.state in
    let gave = g.P.Clients.gave in
    let s = c.args.self.now in
    let (registry, password, old, turns, attended) = c.requires.attended in
    client_unfailed state gave registry password old turns (known s.room.serving) s.came c.in-Some.client.now (client_in state gave registry password old turns (known s.room.serving) s.came s.seats c.args.seat c.in-Some.client.now attended c.in-Some.ensures.value)

pub turn-standing-requires-clause-is_open : goal.turn-standing-requires-clause-is_open
turn-standing-requires-clause-is_open g c κs within =
    let state = g.C.Channel.state in
    let gave = g.P.Clients.gave in
    let s = c.args.self.now in
    let (registry, password, old, turns, attended) = c.requires.attended in
    client_open state gave registry password old turns (known s.room.serving) s.came c.in-Some.client.now (client_in state gave registry password old turns (known s.room.serving) s.came s.seats c.args.seat c.in-Some.client.now attended c.in-Some.ensures.value)

pub drop_one-requires : goal.drop_one-requires
drop_one-requires g c =
    let s = c.args.self.now in
    let t = c.turn-standing.new in
    let (registry, password, old, turns, attended) = c.requires.attended in
    let (more, sat, is) = sat_turn g.C.Channel.state g.P.Clients.gave registry password old turns (known s.room.serving) (known t.room.serving) s.came s.seats c.args.seat c.in-Some.client.now t.self
    c.in-Some.ensures.value c.turn-standing.ensures.number (c.turn-standing.ensures.turns registry password) attended in
    record { attended = (registry, password, old, turns ++ more, sat) }

pub returns-then-has_left-clause-desk : goal.returns-then-has_left-clause-desk
returns-then-has_left-clause-desk g c = c.drop_one.ensures.desk ∙ c.turn-standing.ensures.desk

pub returns-then-has_left-clause-there : goal.returns-then-has_left-clause-there
returns-then-has_left-clause-there g c registry password old turns attended =
    let s = c.args.self.now in
    let t = c.turn-standing.new in
    let (more, sat, is) = sat_turn g.C.Channel.state g.P.Clients.gave registry password old turns (known s.room.serving) (known t.room.serving) s.came s.seats c.args.seat c.in-Some.client.now t.self
    c.in-Some.ensures.value c.turn-standing.ensures.number (c.turn-standing.ensures.turns registry password) attended in
    let there = g.P.Clients.there registry in
    let n = slab_len s.seats in
    let same = same_count s.seats c.args.seat c.in-Some.client.now t.self c.in-Some.ensures.value in
    let turned = counts_by there c.args.clients.now t.clients 0 0 n n n (omega arith) (omega arith) (c.turn-standing.ensures.there registry) in
    let left = slab_len c.drop_one.new.self.seats in
    counts_on there c.args.clients.now t.clients c.drop_one.new.clients n n left turned
    (counts_by there t.clients c.drop_one.new.clients (slab_len (with_value s.seats c.args.seat t.self)) left 0 n left (omega (arith, same)) (omega arith) (c.drop_one.ensures.there registry password old (turns ++ more) sat))

pub returns-then-has_left-clause-attended : goal.returns-then-has_left-clause-attended
returns-then-has_left-clause-attended g c registry password old turns attended =
    let s = c.args.self.now in
    let t = c.turn-standing.new in
    let (more, sat, is) = sat_turn g.C.Channel.state g.P.Clients.gave registry password old turns (known s.room.serving) (known t.room.serving) s.came s.seats c.args.seat c.in-Some.client.now t.self
    c.in-Some.ensures.value c.turn-standing.ensures.number (c.turn-standing.ensures.turns registry password) attended in
    (more, c.drop_one.ensures.attended registry password old (turns ++ more) sat)

pub returns-clause-there : goal.returns-clause-there
returns-clause-there g c registry password old turns attended =
    let s = c.args.self.now in
    let t = c.turn-standing.new in
    let there = g.P.Clients.there registry in
    let n = slab_len s.seats in
    let same = same_count s.seats c.args.seat c.in-Some.client.now t.self c.in-Some.ensures.value in
    let turned = counts_by there c.args.clients.now t.clients 0 0 n n n (omega arith) (omega arith) (c.turn-standing.ensures.there registry) in
    let sits = slab_len (with_value s.seats c.args.seat t.self) in
    counts_on there c.args.clients.now t.clients c.served.new.self n n sits turned
    (counts_by there t.clients c.served.new.self 0 0 n n sits (omega arith) (omega (arith, same)) (c.served.ensures registry))

pub returns-clause-attended : goal.returns-clause-attended
returns-clause-attended g c registry password old turns attended =
    let s = c.args.self.now in
    let t = c.turn-standing.new in
    let (more, sat, is) = sat_turn g.C.Channel.state g.P.Clients.gave registry password old turns (known s.room.serving) (known t.room.serving) s.came s.seats c.args.seat c.in-Some.client.now t.self
    c.in-Some.ensures.value c.turn-standing.ensures.number (c.turn-standing.ensures.turns registry password) attended in
    (more, sat)
