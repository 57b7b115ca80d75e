use Rattle.sessions.specs.declared.session.SessionEnd.TheVariants.{WriteFailed}
use Rattle.crews.specs.declared.clients.Parting.TheVariants.{Ended}
use Rattle.crews.proofs.TurnLemmas.{stands_settled, stands_leaving}
use Rattle.crews.proofs.turn.Client.tell.Goals as goal

pub returns-in-All-clause-stands : goal.returns-in-All-clause-stands
returns-in-All-clause-stands g c registry password came exchanges stands =
    let s = c.args.self.now in
    let t = c.send_to-taking.new in
    stands_settled g.C.Channel.state registry password came s.channel t.channel exchanges s.tokens s.talk s.owed t.self c.settle.new.self s.leaving c.send_to-taking.ensures.taken c.send_to-taking.ensures.failures c.settle.ensures stands

pub returns-in-More-clause-stands : goal.returns-in-More-clause-stands
returns-in-More-clause-stands g c registry password came exchanges stands =
    let s = c.args.self.now in
    let t = c.send_to-taking.new in
    stands_settled g.C.Channel.state registry password came s.channel t.channel exchanges s.tokens s.talk s.owed t.self c.settle.new.self s.leaving c.send_to-taking.ensures.taken c.send_to-taking.ensures.failures c.settle.ensures stands

pub returns-in-Failed-clause-stands : goal.returns-in-Failed-clause-stands
returns-in-Failed-clause-stands g c registry password came exchanges stands =
    let s = c.args.self.now in
    let t = c.send_to-taking.new in
    stands_leaving g.C.Channel.state registry password came t.channel exchanges s.tokens s.talk c.settle.new.self s.leaving (Ended WriteFailed) (λ es read said cut. cut)
    (stands_settled g.C.Channel.state registry password came s.channel t.channel exchanges s.tokens s.talk s.owed t.self c.settle.new.self s.leaving c.send_to-taking.ensures.taken c.send_to-taking.ensures.failures c.settle.ensures stands)
