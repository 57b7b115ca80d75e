use Rattle.crews.specs.declared.clients.Parting.TheVariants.{LetGo}
use Rattle.crews.proofs.TurnLemmas.{stands_leaving}
use Rattle.crews.proofs.turn.Client.let_go.Goals as goal
use Rattle.crews.proofs.turn.Client.let_go.Goals.{then-is_none, else-is_none}

pub returns-clause-stands : goal.returns-clause-stands
returns-clause-stands g c registry password came exchanges stands =
    let s = c.args.self.now in
    elim c.if-is_none.branch [
      | then-is_none w ↦ c.tell.ensures.stands registry password came exchanges (rw w.self-is (stands_leaving g.C.Channel.state registry password came s.channel exchanges s.tokens s.talk s.owed s.leaving LetGo (λ es read said cut. cut) stands))
      | else-is_none w ↦ c.tell.ensures.stands registry password came exchanges (rw w.self-is stands)
    ]
