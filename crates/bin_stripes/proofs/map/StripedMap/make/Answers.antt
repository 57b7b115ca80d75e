use Rattle.std.proofs.Common.{◌≡◌, Option, sym, ap, ◌∙◌, subst}
use Rattle.std.specs.Option.{option_copied}
use Rattle.atomic_methods.specs.Hashes.{stripe_of}
use Rattle.timed_bins.specs.declared.timing.Timing.{Timing}
use Rattle.bin_stripes.specs.Deeds.{CallsBy, RefusesBy, SettlesAt}
use Rattle.bin_stripes.specs.Passes.{stripes_of}
use Rattle.bin_stripes.proofs.StepLemmas.{holds_after}
use Rattle.bin_stripes.proofs.PassLemmas.{rests_of, on_err_so, if_ok_so}
use Rattle.bin_stripes.proofs.TimedLemmas.{settles_at, pass_calls, pass_is_refused}
use Rattle.bin_stripes.proofs.map.StripedMap.make.Goals as goal

pub make_call-answer-requires-clause-held : goal.make_call-answer-requires-clause-held
make_call-answer-requires-clause-held g c = let known = c.pass.inside.known in let me = c.take-seat.result.me in
    holds_after _ _ c.self.inside.table.shared.table_id.slots c.stripe_for-stripe.result me c.take_stripe.new.seat.me
    (rests_of known.table_id known.views me c.pass.invariant c.take-seat.ensures.2 c.take-seat.ensures.3).some c.take_stripe.ensures.took

pub returns-clause-ok : goal.returns-clause-ok
returns-clause-ok g c = let id = c.pass.inside.known.table_id in let sid = c.self.inside.table.shared.table_id in let e : id ≡ sid = ap (λ p. p.map) c.pass.view_is ∙ (c.requires.map ∙ sym c.self.view_is) in
    let known = c.pass.inside.known in let me = c.take-seat.result.me in let held = c.take_stripe.new.seat.me in let me' = c.make_call-answer.new.seat.me in
    let k = c.stripe_for-stripe.result in let i = c.new-call.result in let timing : Option Timing = option_copied c.args.timing in
    let rests = rests_of known.table_id known.views me c.pass.invariant c.take-seat.ensures.2 c.take-seat.ensures.3 in
    let here = c.stripe_for-stripe.ensures.stripe ∙ ap (λ t. stripe_of (stripes_of t) i.key) (sym c.requires.map) in
    let bytes = c.make_call-answer.new.bytes in
    rw (← c.new-call.ensures.value) (if_ok_so _ _ c.make_call-answer.result (λ timed l. pass_calls id known.views me c.take-seat.ensures.2 k me' c.put.new.self.table_id c.put.new.self.views c.put.ensures.2 c.args.pass.now c.pass.view_is
    timing i timed bytes (subst (λ z. SettlesAt (CallsBy timing i timed bytes) (stripes_of z) k me me') (sym e) (settles_at _ _ (CallsBy timing i timed bytes) sid.slots k me held me' rests c.take_stripe.ensures.took l)) here)
    c.make_call-answer.ensures.ok)

pub returns-clause-err : goal.returns-clause-err
returns-clause-err g c = let id = c.pass.inside.known.table_id in let sid = c.self.inside.table.shared.table_id in let e : id ≡ sid = ap (λ p. p.map) c.pass.view_is ∙ (c.requires.map ∙ sym c.self.view_is) in
    let known = c.pass.inside.known in let me = c.take-seat.result.me in let held = c.take_stripe.new.seat.me in let me' = c.make_call-answer.new.seat.me in
    let k = c.stripe_for-stripe.result in let i = c.new-call.result in let timing : Option Timing = option_copied c.args.timing in
    let rests = rests_of known.table_id known.views me c.pass.invariant c.take-seat.ensures.2 c.take-seat.ensures.3 in
    let here = c.stripe_for-stripe.ensures.stripe ∙ ap (λ t. stripe_of (stripes_of t) i.key) (sym c.requires.map) in
    rw (← c.new-call.ensures.value) (on_err_so c.make_call-answer.result (λ l. pass_is_refused id known.views me c.take-seat.ensures.2 k me' c.put.new.self.table_id c.put.new.self.views c.put.ensures.2 c.args.pass.now c.pass.view_is
    timing i (subst (λ z. SettlesAt (RefusesBy timing i) (stripes_of z) k me me') (sym e) (settles_at _ _ (RefusesBy timing i) sid.slots k me held me' rests c.take_stripe.ensures.took l)) here)
    c.make_call-answer.ensures.err)
