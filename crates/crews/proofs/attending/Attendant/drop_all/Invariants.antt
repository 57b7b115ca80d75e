-- the life so far stands, and the seats so far are empty
use Rattle.std.proofs.Common.{◌≡◌, ◌<◌, ◌≤◌, ℕ, List, Option, None}
use Rattle.program_registry.specs.declared.registry.Registry.{Registry}
use Rattle.slab.specs.Slab.{get, slab_len}
use Rattle.crews.specs.Arrivals.{CountGoes}
use Rattle.crews.specs.Lives.{Known, known, Turn}
use Rattle.crews.specs.Seats.{IsAttended}
use Rattle.crews.proofs.attending.Attendant.drop_all.Given as goal

abbrev pub invariant-loop-seat : goal.invariant-loop-seat
invariant-loop-seat g l = record {
  attended : (registry : Registry) (password : Option (List ℕ)) (old : Known) (turns : List Turn)
      → IsAttended g.C.Channel.state g.P.Clients.gave registry password old turns (known l.fn.self.room.serving) l.fn.self.came l.fn.self.seats
      → IsAttended g.C.Channel.state g.P.Clients.gave registry password old turns (known l.self.room.serving) l.self.came l.self.seats;
  there : (registry : Registry) (password : Option (List ℕ)) (old : Known) (turns : List Turn)
      → IsAttended g.C.Channel.state g.P.Clients.gave registry password old turns (known l.fn.self.room.serving) l.fn.self.came l.fn.self.seats
      → CountGoes (g.P.Clients.there registry) l.fn.clients (slab_len l.fn.self.seats) l.clients (slab_len l.self.seats);
  over : g.P.Clients.over l.fn.clients → g.P.Clients.over l.clients;
  below : (seat : ℕ) → seat < l.seat → get l.self.seats seat ≡ None;
  above : (seat : ℕ) → l.seat-end ≤ seat → get l.self.seats seat ≡ None;
}
