use Rattle.std.proofs.Common.{◌≡◌, sym, ap, ◌∙◌, subst}
use Rattle.bin_stripes.specs.Holding.{SeatReplaces}
use Rattle.bin_stripes.specs.Passes.{stripes_of}
use Rattle.bin_stripes.proofs.StepLemmas.{holds_after, replaces_after}
use Rattle.bin_stripes.proofs.PassLemmas.{rests_of, replaced_after}
use Rattle.bin_stripes.proofs.map.StripedMap.replace_stripe.Goals as goal

pub make_replacements-counts-requires-clause-held : goal.make_replacements-counts-requires-clause-held
make_replacements-counts-requires-clause-held g c = let known = c.pass.inside.known in let me = c.take-seat.result.me in
    holds_after _ _ c.self.inside.table.shared.table_id.slots c.args.stripe me c.take_stripe.new.seat.me
    (rests_of known.table_id known.views me c.pass.invariant c.take-seat.ensures.2 c.take-seat.ensures.3).some c.take_stripe.ensures.took

pub returns-clause-each : goal.returns-clause-each
returns-clause-each g c = let id = c.pass.inside.known.table_id in let sid = c.self.inside.table.shared.table_id in let e : id ≡ sid = ap (λ p. p.map) c.pass.view_is ∙ (c.requires.map ∙ sym c.self.view_is) in
    let known = c.pass.inside.known in let me = c.take-seat.result.me in let held = c.take_stripe.new.seat.me in let me' = c.make_replacements-counts.new.seat.me in
    let k = c.args.stripe in let program = c.args.program.now in let arg = c.args.arg.now in let counts = c.make_replacements-counts.result in let m = c.make_replacements-counts.ensures.made in
    let rests = rests_of id known.views me c.pass.invariant c.take-seat.ensures.2 c.take-seat.ensures.3 in
    replaced_after id known.views me c.pass.invariant c.take-seat.ensures.2 me' k program arg counts
    (subst (λ z. SeatReplaces (stripes_of z) k me program arg counts me') (sym e)
    (replaces_after _ _ sid.slots k me held me' program arg counts rests c.take_stripe.ensures.took m.0 m.1.0 m.1.1))
    c.put.new.self.table_id c.put.new.self.views (c.put.ensures.0 ∙ (c.make_replacements-counts.ensures.same.0 ∙ (c.take_stripe.ensures.same.0 ∙ c.take-seat.ensures.0))) c.put.ensures.2
    c.args.pass.now c.pass.view_is
