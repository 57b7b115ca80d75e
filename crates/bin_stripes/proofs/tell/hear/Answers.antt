use Rattle.std.proofs.Common.{◌≡◌, ◌<◌, refl, sym, ◌∙◌, subst, arith}
use Rattle.stripe_rule.specs.Steps.{view_of, HasHeard}
use Rattle.stripe_rule.proofs.TellLemmas.{heard_none, heard_more}
use Rattle.bin_stripes.specs.Histories.{Sound}
use Rattle.bin_stripes.proofs.TellingLemmas.{learns_of, told_sound, told_again, told_rests, heard_since, told_is, told_looks}
use Rattle.bin_stripes.proofs.tell.hear.Goals as goal

pub learn-requires : goal.learn-requires
learn-requires g c = let seat = c.args.seat.now in let from = c.args.from.now in (
  c.requires.seats.0,
  c.requires.seats.1,
  (
    view_of from.views,
    c.requires.from.one,
    learns_of g.B.Bins.table g.B.NotedBins.noted c.args.table.now.key seat.id seat.me.0 from.id (view_of from.views) c.requires.rests.0.some c.requires.from.some,
  ),
)

pub loop-stripe-init : goal.loop-stripe-init
loop-stripe-init g c = let from = view_of c.args.from.now.views in let v = c.args.seat.now.me.0 in let u = c.learn.new.seat.me in let t = told_is from v u.0 c.learn.ensures.3.0 c.args.from.now.views c.learn.ensures.3.1 refl c.learn.ensures.3.2 in
    (refl, refl, heard_none from u.0 u.0 (told_again from v u.0 t), told_rests from c.args.seat.now.me u c.requires.rests.0 t (c.learn.ensures.2 ∙ c.requires.rests.0.none_out), told_sound c.args.stripes from v u.0 t c.requires.rests.1)

pub look-requires-clause-table : goal.look-requires-clause-table
look-requires-clause-table g c = (c.requires.table.0, c.loop-stripe.invariant.0 ∙ (c.learn.ensures.0 ∙ c.requires.seats.0))

pub look-requires-clause-stripe : goal.look-requires-clause-stripe
look-requires-clause-stripe g c = subst (λ n. c.loop-stripe.stripe < n) c.requires.table.1 c.loop-stripe-test.true

pub look-requires-clause-pass : goal.look-requires-clause-pass
look-requires-clause-pass g c = c.loop-stripe.invariant.3.some

pub loop-stripe-preserved : goal.loop-stripe-preserved
loop-stripe-preserved g c = let inv = c.loop-stripe.invariant in let l = c.look.ensures in let from = view_of c.args.from.now.views in let u = c.learn.new.seat.me.0 in let w = c.loop-stripe.seat.me in let x = c.look.new.seat.me in
    let h = heard_more from u w.0 x.0 c.loop-stripe.stripe inv.2 l.looked.extends l.looked.heard in
    (l.same.0 ∙ inv.0, l.same.1 ∙ inv.1, h, told_looks c.args.table.now.table_id.slots g.B.Bins.table g.B.NotedBins.noted c.loop-stripe.stripe w x inv.3 l.looked, subst (λ n. Sound n x.0) (sym c.requires.table.1) l.looked.sound)

pub returns-clause-heard : goal.returns-clause-heard
returns-clause-heard g c = let from = view_of c.args.from.now.views in let v = c.args.seat.now.me.0 in let u = c.learn.new.seat.me.0 in let w = c.loop-stripe.seat.me.0 in
    let t = told_is from v u c.learn.ensures.3.0 c.args.from.now.views c.learn.ensures.3.1 refl c.learn.ensures.3.2 in
    let end : c.loop-stripe.stripe ≡ c.args.stripes = (let t = c.loop-stripe-test.false in let e = c.loop-stripe.auto.stripe-end in omega arith) in
    subst (λ n. HasHeard from v n w) end (heard_since from v u w c.loop-stripe.stripe t c.loop-stripe.invariant.2)
