-- the life goes on by turns of the clients, and those who are there have seats
use Rattle.std.proofs.Common.{◌≡◌, List, ◌++◌}
use Rattle.slab.specs.Slab.{slab_len}
use Rattle.crews.specs.Arrivals.{CountGoes}
use Rattle.crews.specs.Lives.{Known, known, Turn}
use Rattle.crews.specs.Seats.{IsAttended}
use Rattle.crews.proofs.attending.Attendant.attend_all.Given as goal

abbrev pub invariant-loop : goal.invariant-loop
invariant-loop g l = record {
  attended : (old : Known) (turns : List Turn)
      → IsAttended g.C.Channel.state g.P.Clients.gave l.worker.registry.now l.state.password old turns (known l.fn.self.room.serving) l.fn.self.came l.fn.self.seats
      → (more : List Turn)
      × IsAttended g.C.Channel.state g.P.Clients.gave l.worker.registry.now l.state.password old (turns ++ more) (known l.self.room.serving) l.self.came l.self.seats;
  desk : l.self.room.desk ≡ l.fn.self.room.desk;
  there : CountGoes (g.P.Clients.there l.worker.registry.now) l.fn.clients (slab_len l.fn.self.seats) l.clients (slab_len l.self.seats);
}
