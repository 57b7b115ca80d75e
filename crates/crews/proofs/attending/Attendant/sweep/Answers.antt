use Rattle.std.proofs.Common.{arith}
use Rattle.slab.specs.Slab.{slab_len}
use Rattle.crews.specs.Lives.{known}
use Rattle.crews.proofs.CountLemmas.{counts_by}
use Rattle.crews.proofs.SeatLemmas.{has_swept}
use Rattle.crews.proofs.attending.Attendant.sweep.Goals as goal

pub returns-clause-there : goal.returns-clause-there
returns-clause-there g c registry =
    let n = slab_len c.args.self.now.seats in
    counts_by (g.P.Clients.there registry) c.args.clients.now c.now-self.new.self 0 0 n n n (omega arith) (omega arith) (c.now-self.ensures registry)

pub returns-clause-attended : goal.returns-clause-attended
returns-clause-attended g c registry password old turns attended =
    let s = c.args.self.now in
    let is = c.sweep-self.ensures in
    has_swept g.C.Channel.state g.P.Clients.gave registry password old turns (known s.room.serving) (known c.sweep-self.new.self.serving) s.came c.now-self.result s.seats is.sweeps is.same is.numbers is.team is.strict attended
