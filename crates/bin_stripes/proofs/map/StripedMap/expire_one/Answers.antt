use Rattle.std.proofs.Common.{◌≡◌, sym, ap, ◌∙◌, subst}
use Rattle.bin_stripes.specs.Deeds.{ExpiresBy, SettlesAt}
use Rattle.bin_stripes.specs.Passes.{stripes_of}
use Rattle.bin_stripes.proofs.StepLemmas.{holds_after}
use Rattle.bin_stripes.proofs.PassLemmas.{rests_of}
use Rattle.bin_stripes.proofs.TimedLemmas.{settles_at, expires_one}
use Rattle.bin_stripes.proofs.map.StripedMap.expire_one.Goals as goal

pub make_expiry-expiry-requires-clause-held : goal.make_expiry-expiry-requires-clause-held
make_expiry-expiry-requires-clause-held g c = let known = c.pass.inside.known in let me = c.take-seat.result.me in
    holds_after _ _ c.self.inside.table.shared.table_id.slots c.args.stripe me c.take_stripe.new.seat.me
    (rests_of known.table_id known.views me c.pass.invariant c.take-seat.ensures.2 c.take-seat.ensures.3).some c.take_stripe.ensures.took

pub returns-clause-expires : goal.returns-clause-expires
returns-clause-expires g c = let id = c.pass.inside.known.table_id in let sid = c.self.inside.table.shared.table_id in let e : id ≡ sid = ap (λ p. p.map) c.pass.view_is ∙ (c.requires.map ∙ sym c.self.view_is) in
    let known = c.pass.inside.known in let me = c.take-seat.result.me in let held = c.take_stripe.new.seat.me in let me' = c.make_expiry-expiry.new.seat.me in
    let k = c.args.stripe in let did = ExpiresBy c.args.now c.make_expiry-expiry.result in
    let rests = rests_of known.table_id known.views me c.pass.invariant c.take-seat.ensures.2 c.take-seat.ensures.3 in
    rw c.plain.ensures
    (expires_one id known.views me c.take-seat.ensures.2 k me' c.put.new.self.table_id c.put.new.self.views c.put.ensures.2 c.args.pass.now c.pass.view_is
    c.args.now c.make_expiry-expiry.result (subst (λ z. SettlesAt did (stripes_of z) k me me') (sym e) (settles_at _ _ did sid.slots k me held me' rests c.take_stripe.ensures.took c.make_expiry-expiry.ensures.made)))
