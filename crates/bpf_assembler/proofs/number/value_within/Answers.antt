use Rattle.std.proofs.Common.{◌≡◌, ◌+◌, ◌*◌, ◌-◌, arith, get_or}
use Rattle.bpf_assembler.proofs.NumberLemmas.{value_from-next, value_from-passes, value_from-end}
use Rattle.bpf_assembler.proofs.number.value_within.Goals as goal

pub returns-in_err-checked_mul-clause-none : goal.returns-in_err-checked_mul-clause-none
returns-in_err-checked_mul-clause-none c =
    let passes = value_from-passes c.args.digits.now c.loop-digit.digit-index 0 c.loop-digit.value _ c.loop-digit-test.true c.loop-digit.invariant in
    rw c.from_residual.ensures (omega (arith, passes, c.in_err-checked_mul.ensures, c.ranges.limit.fits))

pub returns-in_err-value-clause-none : goal.returns-in_err-value-clause-none
returns-in_err-value-clause-none c =
    let passes = value_from-passes c.args.digits.now c.loop-digit.digit-index 0 c.loop-digit.value _ c.loop-digit-test.true c.loop-digit.invariant in
    rw c.from_residual-in_err-value.ensures (omega (arith, passes, c.in_err-value.ensures, c.in_ok-checked_mul.ensures, c.from.ensures, c.ranges.limit.fits))

pub loop-digit-preserved : goal.loop-digit-preserved
loop-digit-preserved c =
    let next = value_from-next c.args.digits.now c.loop-digit.digit-index 0 c.loop-digit.value _ c.loop-digit-test.true c.loop-digit.invariant in
    let same : c.in_ok-value.value ≡ c.loop-digit.value * 10 + (get_or c.args.digits.now c.loop-digit.digit-index 0 - 48) = omega (arith, c.in_ok-value.ensures.1, c.in_ok-checked_mul.ensures.1, c.from.ensures) in
    rw same next

pub returns-then-value-limit-clause-some : goal.returns-then-value-limit-clause-some
returns-then-value-limit-clause-some c =
    (value_from-end c.args.digits.now c.loop-digit.digit-index c.loop-digit.value _ c.loop-digit-test.false c.loop-digit.invariant, c.if-value-limit.true)

pub returns-else-value-limit-clause-none : goal.returns-else-value-limit-clause-none
returns-else-value-limit-clause-none c =
    let all = value_from-end c.args.digits.now c.loop-digit.digit-index c.loop-digit.value _ c.loop-digit-test.false c.loop-digit.invariant in
    omega (arith, all, c.if-value-limit.false)
