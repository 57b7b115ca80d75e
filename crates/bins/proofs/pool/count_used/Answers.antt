use Rattle.std.proofs.Common.{◌+◌, ◌≤◌, ℕ, arith}
use Rattle.bins.specs.declared.pool.TheConstants.{WIDTHS}
use Rattle.bins.specs.Rows.{total, used, width_at}
use Rattle.bins.proofs.PoolLemmas.{total_more, total_start, total_upto}
use Rattle.bins.proofs.pool.count_used.Goals as goal

pub loop-step-init : goal.loop-step-init
loop-step-init c = total_start _

pub overflow_add-many : goal.overflow_add-many
overflow_add-many c =
    let f : ℕ → ℕ = λ step. (width_at c.args.widths.now.items step).segments in
    let more = total_more c.loop-step.step f in
    let most = total_upto (c.loop-step.step + 1) WIDTHS f (omega (arith, c.loop-step-test.true)) in
    let bound : total WIDTHS f ≤ used c.args.widths.now.items = omega arith in
    omega (arith, c.loop-step.invariant, c.segments_at-many.ensures.value, more, most, bound, c.requires)

pub loop-step-preserved : goal.loop-step-preserved
loop-step-preserved c =
    let f : ℕ → ℕ = λ step. (width_at c.args.widths.now.items step).segments in
    let more = total_more c.loop-step.step f in
    omega (arith, c.loop-step.invariant, c.segments_at-many.ensures.value, more)
