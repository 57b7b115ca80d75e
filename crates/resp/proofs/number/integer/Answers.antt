-- texts of no negative number
use Rattle.std.proofs.Common.{ℤ, FitsSigned, ◌≢◌}
use Rattle.std.specs.Fmt.{signed_decimal}
use Rattle.std.specs.Int.{w64}
use Rattle.resp.proofs.StreamLemmas.{if_none}
use Rattle.resp.proofs.NumberLemmas.{no_negative, zero_text}
use Rattle.resp.proofs.number.integer.Goals as goal

pub returns-in_err-n-clause-none : goal.returns-in_err-n-clause-none
returns-in_err-n-clause-none c =
    if_none c.from_residual.result ((n : ℤ) → FitsSigned w64 n → c.args.text.now ≢ signed_decimal n)
    (no_negative c.args.text.now c.in-Some.digits.now c.in-Some.ensures.some (λ n some within. c.in_err-n.ensures.none n within))

pub returns-then-n-eq0-clause-none : goal.returns-then-n-eq0-clause-none
returns-then-n-eq0-clause-none c =
    no_negative c.args.text.now c.in-Some.digits.now c.in-Some.ensures.some (zero_text c.in_ok-n.n c.in-Some.digits.now c.if-n-eq0.true c.in_ok-n.ensures.some.1)
