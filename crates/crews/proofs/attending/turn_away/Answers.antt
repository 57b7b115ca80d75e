use Rattle.std.proofs.Common.{None, refl, sym, subst}
use Rattle.crews.specs.declared.clients.Parting.TheVariants.{NotKept}
use Rattle.crews.specs.Lives.{HasParted}
use Rattle.crews.specs.Stations.{KeptTokens}
use Rattle.crews.specs.Partings.{not_kept_told}
use Rattle.crews.proofs.SeatLemmas.{arrived, turned_away}
use Rattle.crews.proofs.attending.turn_away.Goals as goal

pub ended-requires : goal.ended-requires
ended-requires g c =
    let (came, given, same) = c.requires.came in
    subst (λ (t : KeptTokens). HasParted g.C.Channel.state g.P.Clients.gave c.args.pass.now c.tell_away.new.channel t NotKept) (sym c.requires.none)
    (turned_away g.C.Channel.state g.P.Clients.gave c.args.tokens.registry None c.args.pass.now (arrived came c.args.protocol) c.args.channel c.tell_away.new.channel c.tell_away.result (not_kept_told c.args.protocol) given same refl c.tell_away.ensures)
