-- the crew is of the map, has the numbers that it had, and was moved by the sessions so far
use Rattle.std.proofs.Common.{ℕ}
use Rattle.crews.specs.Crews.{IsCrewOf, CarriesSame}
use Rattle.crews.specs.Served.{ServesClients}
use Rattle.crews.proofs.server.serve_clients.Given as goal

abbrev pub invariant-loop : goal.invariant-loop
invariant-loop g l = record {
  of : IsCrewOf l.worker.map.now l.crew;
  same : CarriesSame l.fn.crew l.crew;
  served : (n : ℕ) × ServesClients g.R.Source.state g.W.Sink.state g.A.Accept.gave l.worker.registry.now n l.fn.crew l.crew;
}
