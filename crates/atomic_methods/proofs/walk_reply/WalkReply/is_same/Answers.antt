use Rattle.std.proofs.Common.{rules}
use Rattle.atomic_methods.proofs.OneReply.{one_reply}
use Rattle.atomic_methods.proofs.walk_reply.WalkReply.is_same.Goals as goal

pub returns-then-is_same-clause-one : goal.returns-then-is_same-clause-one
returns-then-is_same-clause-one c kind checked arg entries first second =
    let same = one_reply kind checked arg entries c.args.self.now c.args.other.now first second in
    let counts = same.1 in
    let equal = c.eq.ensures in
    search rules

pub returns-else-is_same-clause-one : goal.returns-else-is_same-clause-one
returns-else-is_same-clause-one c kind checked arg entries first second =
    c.is_same.ensures.exact.1 (one_reply kind checked arg entries c.args.self.now c.args.other.now first second).0
