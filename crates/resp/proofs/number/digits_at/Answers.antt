-- what is left, and numbers that can't be
use Rattle.std.proofs.Common.{◌≡◌, ◌<◌, ◌/◌, ◌⊎◌, inl, inr, arith}
use Rattle.resp.specs.Reading.{NoDigits}
use Rattle.std.proofs.Common.{length, ◌≤◌}
use Rattle.resp.proofs.StreamLemmas.{if_none}
use Rattle.resp.proofs.NumberLemmas.{first_digit, digit_more, above, above_later, no_first}
use Rattle.resp.proofs.number.digits_at.Goals.{then-n-eq0-via-then-n-eq0, then-n-eq0-via-else-n-eq0+then-n-most}
use Rattle.resp.proofs.number.digits_at.Goals as goal

pub returns-in_err-first-clause-none : goal.returns-in_err-first-clause-none
returns-in_err-first-clause-none c =
    if_none c.from_residual.result (1 ≤ length c.args.bytes.now → NoDigits c.args.most c.args.bytes.now)
    (λ some. no_first c.args.most c.args.bytes.now c.requires c.in_err-first.ensures.none some)

pub loop-digit-init : goal.loop-digit-init
loop-digit-init c =
    let (small, e) = c.in_ok-first.ensures.some in
    (rw c.from-n.ensures (first_digit c.in_ok-first.first c.args.bytes.now c.in_ok-first.tail.now small e), omega (arith, small, c.from-n.ensures))

pub returns-then-n-eq0-clause-none : goal.returns-then-n-eq0-clause-none
returns-then-n-eq0-clause-none c =
    let (small, e) = c.in-Some.ensures.some in
    let (front, near) = c.loop-digit.invariant in
    let big : (c.loop-digit.n ≡ 0) ⊎ (c.args.most / 10 < c.loop-digit.n) =
    elim c.then-n-eq0.branch [ then-n-eq0-via-then-n-eq0 w ↦ inl (omega (arith, w.if-n-eq0)) | then-n-eq0-via-else-n-eq0+then-n-most w ↦ inr (omega (arith, w.if-n-most)) ] in
    λ some. above_later c.loop-digit.n c.in-Some.digit c.args.most c.args.bytes.now c.loop-digit.rest.now c.in-Some.tail.now c.requires near big small front e

pub loop-digit-preserved : goal.loop-digit-preserved
loop-digit-preserved c =
    let (small, e) = c.in-Some.ensures.some in
    let (front, near) = c.loop-digit.invariant in
    let bound = c.requires in
    let some = c.if-n-eq0.false in
    let less = c.if-n-most.false in
    let is = c.from.ensures in
    (rw is (digit_more c.loop-digit.n c.in-Some.digit c.args.bytes.now c.loop-digit.rest.now c.in-Some.tail.now (omega (arith, some)) small (omega (arith, less, bound, small)) front e), omega (arith, less, small, is))

pub returns-then-n-most-2-clause-none : goal.returns-then-n-most-2-clause-none
returns-then-n-most-2-clause-none c =
    let (front, near) = c.loop-digit.invariant in
    λ some. above c.loop-digit.n c.args.most c.args.bytes.now c.loop-digit.rest.now c.if-n-most-2.true (omega (arith, near, c.requires)) front
