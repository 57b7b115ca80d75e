use Rattle.std.proofs.Common.{◌≡◌, ◌+◌, ◌*◌, ◌≤◌, ◌-◌, All, vec_len}
use Rattle.crews.specs.Crews.{IsCrewOf}
use Rattle.map_server.specs.Servers.{AreAsked}
use Rattle.map_server.proofs.opening.crews_of.Given as goal

abbrev pub invariant-loop-worker : goal.invariant-loop-worker
invariant-loop-worker l = record {
  serve : All (λ pass. pass.map ≡ l.map) l.passes.items;
  passes : (l.workers - l.worker) * (1 + l.team) ≤ vec_len l.passes;
  crews : All (λ crew. IsCrewOf l.map crew) l.crews.items;
  asked : AreAsked l.worker l.team l.crews.items;
}
