use Rattle.std.proofs.Common.{◌≡◌, sym, ap, ◌∙◌, subst}
use Rattle.bin_stripes.specs.Holding.{SeatReplaces}
use Rattle.bin_stripes.specs.Passes.{stripes_of}
use Rattle.bin_stripes.proofs.PassLemmas.{replaced_after, if_ok_so}
use Rattle.bin_stripes.proofs.map.StripedMap.try_replace_stripe.Goals as goal

pub returns-clause-ok : goal.returns-clause-ok
returns-clause-ok c = let id = c.pass.inside.known.table_id in let sid = c.self.inside.table.shared.table_id in let e : id ≡ sid = ap (λ p. p.map) c.pass.view_is ∙ (c.requires.map ∙ sym c.self.view_is) in
    let known = c.pass.inside.known in let me = c.take-seat.result.me in let me' = c.try_replace-answer.new.seat.me in
    let k = c.args.stripe in let program = c.args.program.now in let arg = c.args.arg.now in
    if_ok_so _ _ c.try_replace-answer.result (λ counts r. replaced_after id known.views me c.pass.invariant c.take-seat.ensures.2 me' k program arg counts
    (subst (λ z. SeatReplaces (stripes_of z) k me program arg counts me') (sym e) r)
    c.put.new.self.table_id c.put.new.self.views (c.put.ensures.0 ∙ (c.try_replace-answer.ensures.same.0 ∙ c.take-seat.ensures.0)) c.put.ensures.2
    c.args.pass.now c.pass.view_is)
    c.try_replace-answer.ensures.ok
