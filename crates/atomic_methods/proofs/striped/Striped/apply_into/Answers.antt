use Rattle.std.proofs.Common.{◌∙◌}
use Rattle.atomic_methods.specs.Plans.{reply_by}
use Rattle.atomic_methods.proofs.WholeLemmas.{applied}
use Rattle.atomic_methods.proofs.striped.Striped.apply_into.Goals as goal

pub invariant_of-self : goal.invariant_of-self
invariant_of-self c =
    let count = c.len.ensures ∙ c.self.inside.stripes.ok.0 in
    let at = rw count at c.stripe-stripe.ensures.value in
    let lt = rw count at c.stripe-stripe.ensures.range in
    (applied (λ k. reply_by k c.before.apply_into.new.bytes) _ c.self.invariant _ c.new-call.result at lt _ _ c.index_mut-bins.ensures.value _ c.apply_into.ensures.ok c.apply_into.ensures.err c.apply_into.ensures.memory).stripes

pub returns-clause-ok : goal.returns-clause-ok
returns-clause-ok c =
    let count = c.len.ensures ∙ c.self.inside.stripes.ok.0 in
    let at = rw count at c.stripe-stripe.ensures.value in
    let lt = rw count at c.stripe-stripe.ensures.range in
    rw (← c.self.view_is, ← c.new-call.ensures.value) (applied (λ k. reply_by k c.before.apply_into.new.bytes) _ c.self.invariant _ c.new-call.result at lt _ _ c.index_mut-bins.ensures.value _ c.apply_into.ensures.ok c.apply_into.ensures.err c.apply_into.ensures.memory).answers

pub returns-clause-memory : goal.returns-clause-memory
returns-clause-memory c =
    let count = c.len.ensures ∙ c.self.inside.stripes.ok.0 in
    let at = rw count at c.stripe-stripe.ensures.value in
    let lt = rw count at c.stripe-stripe.ensures.range in
    rw (← c.self.view_is, ← c.new-call.ensures.value) (applied (λ k. reply_by k c.before.apply_into.new.bytes) _ c.self.invariant _ c.new-call.result at lt _ _ c.index_mut-bins.ensures.value _ c.apply_into.ensures.ok c.apply_into.ensures.err c.apply_into.ensures.memory).adds
