use Rattle.std.proofs.Common.{arith, inr, ap}
use Rattle.client_protocol.specs.declared.limits.Limits.{Limits}
use Rattle.client_protocol.proofs.frames.next.Goals as goal

-- not all of the body is there
pub returns-then-rest-len-clause-begun : goal.returns-then-rest-len-clause-begun
returns-then-rest-len-clause-begun c =
    let body = ap (λ (limits : Limits). limits.body) c.after.ensures in
    inr (record { n = c.in-Some.len; part = c.in-Some.rest.now; allowed = (omega arith, omega (arith, body)); spelled = c.in-Some.ensures.some; short = omega arith })
