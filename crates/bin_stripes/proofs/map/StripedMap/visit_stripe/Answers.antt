use Rattle.std.proofs.Common.{◌≡◌, ◌∷◌, [], sym, ap, ◌∙◌, subst}
use Rattle.std.specs.FinMap as map
use Rattle.stripe_rule.specs.Gains.{seen_of}
use Rattle.bin_stripes.specs.Actions.{scanned}
use Rattle.bin_stripes.specs.Holding.{Settles}
use Rattle.bin_stripes.specs.Invoked.{AreOf}
use Rattle.bin_stripes.specs.Passes.{stripes_of}
use Rattle.bin_stripes.proofs.StepLemmas.{holds_after, settles_as}
use Rattle.bin_stripes.proofs.StripeTables.{entries_are_of}
use Rattle.bin_stripes.proofs.PassLemmas.{state, rests_of, makes_after}
use Rattle.bin_stripes.proofs.map.StripedMap.visit_stripe.Goals as goal

pub make_visit-requires-clause-held : goal.make_visit-requires-clause-held
make_visit-requires-clause-held g c = let known = c.pass.inside.known in let me = c.take-seat.result.me in
    holds_after _ _ c.self.inside.table.shared.table_id.slots c.args.stripe me c.take_stripe.new.seat.me
    (rests_of known.table_id known.views me c.pass.invariant c.take-seat.ensures.2 c.take-seat.ensures.3).some c.take_stripe.ensures.took

pub returns-clause-visits : goal.returns-clause-visits
returns-clause-visits g c = let id = c.pass.inside.known.table_id in let sid = c.self.inside.table.shared.table_id in let e : id ≡ sid = ap (λ p. p.map) c.pass.view_is ∙ (c.requires.map ∙ sym c.self.view_is) in
    let known = c.pass.inside.known in let me = c.take-seat.result.me in let held = c.take_stripe.new.seat.me in let me' = c.make_visit.new.seat.me in
    let k = c.args.stripe in let new = state c.put.new.self.table_id c.put.new.self.views in
    let rests = rests_of id known.views me c.pass.invariant c.take-seat.ensures.2 c.take-seat.ensures.3 in
    let m = c.make_visit.ensures.made in let actions = scanned (map.entries m.0) ∷ [] in record {
      entries = map.entries m.0;
      scans = makes_after id known.views me c.pass.invariant c.take-seat.ensures.2 k actions me'
          (subst (λ z. Settles (stripes_of z) k me actions me') (sym e) (settles_as _ _ sid.slots k me held me' actions rests c.take_stripe.ensures.took m.1.1))
          c.put.new.self.table_id c.put.new.self.views (c.put.ensures.0 ∙ (c.make_visit.ensures.same.0 ∙ (c.take_stripe.ensures.same.0 ∙ c.take-seat.ensures.0))) c.put.ensures.2
          c.args.pass.now c.pass.view_is;
      are = subst (λ z. AreOf (stripes_of z) k (map.entries m.0)) (sym c.requires.map) (subst (λ z. AreOf (stripes_of z) k (map.entries m.0)) c.self.view_is (entries_are_of sid.slots k m.0 (seen_of held.0 k) m.1.0));
      bounded = m.1.3;
      shown = m.1.2.entries;
      same = m.1.2.are;
      visits = m.1.2.visits;
    }
