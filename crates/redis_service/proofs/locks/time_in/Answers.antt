use Rattle.std.proofs.Common.{pos, rules, w64}
use mir.Val.{SFits}
use Rattle.std.proofs.lemmas.Int.{to_z-of_z}
use Rattle.redis_service.proofs.LockLemmas.{not_below_0}
use Rattle.redis_service.proofs.locks.time_in.Goals as goal

pub returns-in_default-clause-none : goal.returns-in_default-clause-none
returns-in_default-clause-none c ms fits is = c.in_default.ensures.none (pos ms) fits is

pub returns-then-n-lt0-clause-none : goal.returns-then-n-lt0-clause-none
returns-then-n-lt0-clause-none c ms fits is =
    let fit : SFits w64 c.in-Some.n = search rules in
    not_below_0 c.in-Some.n ms c.args.word.now (rw (to_z-of_z w64 c.in-Some.n fit) at c.if-n-lt0.true) fit c.in-Some.ensures.some fits is
