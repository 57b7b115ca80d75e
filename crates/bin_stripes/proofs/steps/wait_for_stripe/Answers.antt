use Rattle.std.proofs.Common.{rules, refl, ap, ◌∙◌, subst}
use Rattle.stripe_rule.specs.Gains.{least}
use Rattle.stripe_rule.specs.Steps.{Extends}
use Rattle.stripe_rule.proofs.CallLemmas.{least_has, carries_same, extends_self}
use Rattle.bin_stripes.proofs.StepLemmas.{takes_since, looks_since}
use Rattle.bin_stripes.proofs.steps.wait_for_stripe.Goals as goal
use Rattle.bin_stripes.proofs.steps.wait_for_stripe.Goals.{else-may_try-via-then-may_try+else-try_take_stripe, else-may_try-via-else-may_try}

pub loop-init : goal.loop-init
loop-init g c = let v = c.args.seat.now.me.0 in
    (refl, refl, refl, subst (λ b. Extends v c.args.stripe b v) c.requires.pass.1 (extends_self v c.args.stripe))

pub try_take_stripe-requires-clause-table : goal.try_take_stripe-requires-clause-table
try_take_stripe-requires-clause-table g c = (c.requires.table.0, c.loop.invariant.0 ∙ c.requires.table.1)

pub try_take_stripe-requires-clause-pass : goal.try_take_stripe-requires-clause-pass
try_take_stripe-requires-clause-pass g c = let v = c.args.seat.now.me.0 in let w = c.loop.seat.me.0 in let e = c.loop.invariant.3 in
    (least_has (least v.numbers) w.numbers (carries_same v w (least v.numbers) e.sets.numbers c.requires.pass.0), ap (λ p. p.held) e.sets.here)

pub returns-then-try_take_stripe-clause-took : goal.returns-then-try_take_stripe-clause-took
returns-then-try_take_stripe-clause-took g c = let inv = c.loop.invariant in
    takes_since g.B.Bins.table g.B.NotedBins.noted c.args.table.now.table_id.slots c.args.stripe c.args.seat.now.me.0 c.loop.seat.me c.try_take_stripe.new.seat.me c.args.seat.now.me.1 inv.2 inv.3 (search rules)

pub loop-preserved : goal.loop-preserved
loop-preserved g c = let inv = c.loop.invariant in elim c.else-may_try.branch [
  | else-may_try-via-then-may_try+else-try_take_stripe w ↦
      (let same = w.try_take_stripe.ensures.same in
      let l = looks_since g.B.Bins.table g.B.NotedBins.noted c.args.table.now.table_id.slots c.args.stripe c.args.seat.now.me.0 c.loop.seat.me w.try_take_stripe.new.seat.me c.args.seat.now.me.1 inv.2 inv.3 (search rules) in
      rw w.seat-is (same.0 ∙ inv.0, same.1 ∙ inv.1, l.0, l.1))
  | else-may_try-via-else-may_try w ↦ rw w.seat-is inv
]
