use Rattle.std.proofs.Common.{sym, subst}
use Rattle.crews.specs.declared.clients.Protocol.{Protocol}
use Rattle.crews.specs.Partings.{PartsSo}
use Rattle.program_registry.specs.declared.registry.Registry.{Registry}
use Rattle.crews.specs.Stations.{no_tokens}
use Rattle.crews.specs.Lives.{exchanges_of, KeepsTokens}
use Rattle.crews.proofs.turn.Client.part.Goals as goal

pub ended-requires : goal.ended-requires
ended-requires g c =
    let (registry, password, old, turns, new, n, knows, (low, (came, come, stands))) = c.requires in
    let s = c.args.self in
    record {
      old = old;
      turns = turns;
      new = new;
      knows = knows;
      client = s.number;
      came = came;
      come = come;
      read = stands.read;
      written = stands.written;
      consumed = stands.consumed;
      appended = stands.appended;
      keeps = subst (λ (r : Registry). KeepsTokens (no_tokens r) (exchanges_of s.number turns) s.tokens) (sym stands.of) stands.keeps;
      password = password;
      parts = subst (λ (protocol : Protocol). PartsSo password protocol c.parting_of-parting.result (exchanges_of s.number turns) stands.read stands.written) stands.speaks (c.parting_of-parting.ensures password s.talk (exchanges_of s.number turns) stands.read stands.written s.owed.rest c.is_empty.ensures.0 stands.says);
    }
