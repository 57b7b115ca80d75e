use Rattle.std.proofs.Common.{◌≡◌, [], sym, ap, ◌∙◌, subst}
use Rattle.atomic_methods.specs.Hashes.{stripe_of}
use Rattle.bin_stripes.specs.declared.fault.CallFault.TheVariants.{NoMemory}
use Rattle.bin_stripes.specs.Holding.{Settles, SeatRefuses}
use Rattle.bin_stripes.specs.Passes.{stripes_of}
use Rattle.bin_stripes.proofs.PassLemmas.{refused_after, of_error}
use Rattle.bin_stripes.proofs.map.StripedMap.try_call_into.Goals as goal

pub returns-clause-memory : goal.returns-clause-memory
returns-clause-memory c = let id = c.pass.inside.known.table_id in let sid = c.self.inside.table.shared.table_id in let e : id ≡ sid = ap (λ p. p.map) c.pass.view_is ∙ (c.requires.map ∙ sym c.self.view_is) in
    let known = c.pass.inside.known in let me = c.take-seat.result.me in let me' = c.try_call-answer.new.seat.me in
    let k = c.stripe_for-stripe.result in let i = c.new-call.result in let answer = c.try_call-answer.ensures in
    λ refused. rw (← c.new-call.ensures.value) (refused_after id known.views me c.pass.invariant c.take-seat.ensures.2 me' k i
    (subst (λ z. Settles (stripes_of z) k me [] me') (sym e) (of_error c.try_call-answer.result NoMemory refused answer.err))
    c.put.new.self.table_id c.put.new.self.views (c.put.ensures.0 ∙ (answer.same.0 ∙ c.take-seat.ensures.0)) c.put.ensures.2
    (subst (λ z. SeatRefuses (stripes_of z) k me' i) (sym e) (answer.memory refused))
    c.args.pass.now c.pass.view_is
    (c.stripe_for-stripe.ensures.stripe ∙ ap (λ t. stripe_of (stripes_of t) (c.new-call.result).key) (sym c.requires.map)))
