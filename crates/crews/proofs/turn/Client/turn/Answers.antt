use Rattle.crews.specs.Lives.{known}
use Rattle.crews.proofs.TurnLemmas.{then_stands}
use Rattle.std.proofs.Common.{◌++◌}
use Rattle.crews.proofs.turn.Client.turn.Goals as goal

pub returns-clause-turns : goal.returns-clause-turns
returns-clause-turns g c registry password came exchanges stands =
    let heard = c.hear-read.ensures.turns registry password came exchanges stands in
    let h = c.hear-read.new.self in
    let t = c.tell-sent.new.self in
    then_stands g.C.Channel.state registry password (known c.args.room.now.serving) (known c.hear-read.new.room.serving) came h.channel t.channel exchanges h.tokens t.tokens h.talk t.talk h.owed t.owed h.leaving t.leaving
    heard (c.tell-sent.ensures.stands registry password came (exchanges ++ heard.more))
