use Rattle.std.proofs.Common.{ℕ, Some, subst, refl, ap, ◌∙◌}
use Rattle.value_ranges.specs.declared.range.Range.{Range}
use Rattle.value_ranges.specs.In.{IsSignedUpToMask}
use Rattle.stack_slots.specs.Values.{StandsFor}
use Rattle.verifier.proofs.AddressLemmas.{sum_is, sum_is_swapped, difference_is}
use Rattle.verifier.proofs.arithmetic.operate.Goals as goal

pub returns-in-Add-W64-Pointer-Number-clause-holds : goal.returns-in-Add-W64-Pointer-Number-clause-holds
returns-in-Add-W64-Pointer-Number-clause-holds c =
    let i = c.in-Add-W64-Pointer-Number in
    rw (i.is-0, i.is-1, i.is-2, i.is-3) (λ x y at lies. subst (λ (v : ℕ). StandsFor c.sum.result (Some v)) (sum_is x y) (c.sum.ensures.holds x y at lies))

pub returns-in-Add-W64-Number-Pointer-clause-holds : goal.returns-in-Add-W64-Number-Pointer-clause-holds
returns-in-Add-W64-Number-Pointer-clause-holds c =
    let i = c.in-Add-W64-Number-Pointer in
    let sum = c.sum-in-Add-W64-Number-Pointer in
    rw (i.is-0, i.is-1, i.is-2, i.is-3) (λ x y lies at. subst (λ (v : ℕ). StandsFor sum.result (Some v)) (sum_is_swapped x y) (sum.ensures.holds y x at lies))

pub returns-in-Sub-W64-Pointer-Number-clause-holds : goal.returns-in-Sub-W64-Pointer-Number-clause-holds
returns-in-Sub-W64-Pointer-Number-clause-holds c =
    let i = c.in-Sub-W64-Pointer-Number in
    rw (i.is-0, i.is-1, i.is-2, i.is-3) (λ x y at lies. subst (λ (v : ℕ). StandsFor c.difference.result (Some v)) (difference_is x y lies.word) (c.difference.ensures.holds x y at lies))

pub returns-in-Add-W64-Pointer-Number-clause-sum : goal.returns-in-Add-W64-Pointer-Number-clause-sum
returns-in-Add-W64-Pointer-Number-clause-sum c = λ is-op is-width w lo hi from to near p n.
    let i = c.in-Add-W64-Pointer-Number in
    c.sum.ensures.near w lo hi from to near (rw i.is-2 at p) (rw i.is-3 at n)

pub returns-in_default-clause-mask : goal.returns-in_default-clause-mask
returns-in_default-clause-mask c = λ is-op is-width m r is single small.
    let same = c.as_number-in_default.ensures.number r is in
    let umax = ap (λ (q : Range). q.umax) same ∙ single.umax in
    let bounds = subst (IsSignedUpToMask c.alu.result) umax (c.alu.ensures.mask is-op is-width (rw umax small)) in
    record { range = c.alu.result; is = refl; least = bounds.smin; greatest = bounds.smax }
