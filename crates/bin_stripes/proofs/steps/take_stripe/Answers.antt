use Rattle.std.proofs.Common.{rules, refl, subst}
use Rattle.stripe_rule.specs.Steps.{Extends}
use Rattle.stripe_rule.proofs.CallLemmas.{extends_self}
use Rattle.bin_stripes.proofs.StepLemmas.{takes_since, looks_since}
use Rattle.bin_stripes.proofs.steps.take_stripe.Goals as goal
use Rattle.bin_stripes.proofs.steps.take_stripe.Goals.{else-are_free-via-then-are_free+else-try_take_stripe, else-are_free-via-else-are_free}

-- a take after a lost one is a take
pub returns-clause-took : goal.returns-clause-took
returns-clause-took g c = let me = c.args.seat.now.me in let slots = c.args.table.now.table_id.slots in
    let e = subst (λ b. Extends me.0 c.args.stripe b me.0) c.requires.pass.1 (extends_self me.0 c.args.stripe) in
    elim c.else-are_free.branch [
      | else-are_free-via-then-are_free+else-try_take_stripe w ↦
          (let lost = w.try_take_stripe.new.seat.me in
          let l = looks_since g.B.Bins.table g.B.NotedBins.noted slots c.args.stripe me.0 me lost me.1 refl e (search rules) in
          takes_since g.B.Bins.table g.B.NotedBins.noted slots c.args.stripe me.0 lost c.wait_for_stripe.new.seat.me me.1 l.0 l.1 (rw w.seat-is at c.wait_for_stripe.ensures.took))
      | else-are_free-via-else-are_free w ↦ rw w.seat-is at c.wait_for_stripe.ensures.took
    ]
