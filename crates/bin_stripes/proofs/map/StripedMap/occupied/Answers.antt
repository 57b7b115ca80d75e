use Rattle.std.proofs.Common.{◌≡◌, [], sym, ap, ◌∙◌, subst}
use Rattle.bin_stripes.specs.Holding.{Settles}
use Rattle.bin_stripes.specs.Passes.{stripes_of}
use Rattle.bin_stripes.proofs.StepLemmas.{holds_after, settles_as}
use Rattle.bin_stripes.proofs.PassLemmas.{rests_of, makes_after}
use Rattle.bin_stripes.proofs.map.StripedMap.occupied.Goals as goal

pub make_occupied-occupied-requires-clause-held : goal.make_occupied-occupied-requires-clause-held
make_occupied-occupied-requires-clause-held g c = let known = c.pass.inside.known in let me = c.take-seat.result.me in
    holds_after _ _ c.self.inside.table.shared.table_id.slots c.args.stripe me c.take_stripe.new.seat.me
    (rests_of known.table_id known.views me c.pass.invariant c.take-seat.ensures.2 c.take-seat.ensures.3).some c.take_stripe.ensures.took

-- the pass did nothing
pub returns-clause-nothing : goal.returns-clause-nothing
returns-clause-nothing g c = let id = c.pass.inside.known.table_id in let sid = c.self.inside.table.shared.table_id in let e : id ≡ sid = ap (λ p. p.map) c.pass.view_is ∙ (c.requires.map ∙ sym c.self.view_is) in
    let known = c.pass.inside.known in let me = c.take-seat.result.me in let held = c.take_stripe.new.seat.me in let me' = c.make_occupied-occupied.new.seat.me in
    let k = c.args.stripe in
    let rests = rests_of id known.views me c.pass.invariant c.take-seat.ensures.2 c.take-seat.ensures.3 in
    makes_after id known.views me c.pass.invariant c.take-seat.ensures.2 k [] me'
    (subst (λ z. Settles (stripes_of z) k me [] me') (sym e) (settles_as _ _ sid.slots k me held me' [] rests c.take_stripe.ensures.took c.make_occupied-occupied.ensures.nothing))
    c.put.new.self.table_id c.put.new.self.views (c.put.ensures.0 ∙ (c.make_occupied-occupied.ensures.same.0 ∙ (c.take_stripe.ensures.same.0 ∙ c.take-seat.ensures.0))) c.put.ensures.2
    c.args.pass.now c.pass.view_is
