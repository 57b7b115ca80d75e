use Rattle.std.proofs.Common.{refl, subst, ℕ, List, Option}
use Rattle.sessions.specs.Asking.{walk, with_program}
use Rattle.sessions.specs.Answering.{walk_responses}
use Rattle.sessions.specs.Requests.{Meets}
use Rattle.sessions.proofs.RequestLemmas.{walk_meets}
use Rattle.std.specs.Prelude.{slice_get}
use Rattle.sessions.proofs.alone.Alone.walk.Goals as goal

pub returns-in-Ok : goal.returns-in-Ok
returns-in-Ok c hello bytes =
    subst (λ (arg : Option (List ℕ)). Meets hello c.args.self.now (with_program (slice_get c.args.self.now.programs c.args.number) (λ program. walk c.args.kind program arg)) (walk_responses c.in-Ok.reply) c.args.self.now)
    c.argument_of-arg.ensures
    (walk_meets hello c.args.self.now c.args.kind c.args.number c.argument_of-arg.result c.in-Some.program.now _ c.in-Ok.reply c.in-Some.ensures.value refl c.in-Ok.ensures.ok)
