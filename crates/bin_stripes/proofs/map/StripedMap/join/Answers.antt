use Rattle.std.proofs.Common.{◌≡◌, ℕ, ◌<◌, true, List, length, refl, sym, ap, ◌∙◌, subst, arith}
use Rattle.atomic_table.specs.Seated.{TableId}
use Rattle.stripe_rule.specs.declared.view.View.{View}
use Rattle.stripe_rule.specs.Gains.{Hears, IsJoined, held_at}
use Rattle.stripe_rule.specs.Steps.{Extends, view_of, united}
use Rattle.stripe_rule.proofs.TellLemmas.{hears}
use Rattle.stripe_rule.proofs.JoinLemmas.{joined}
use Rattle.atomic_methods.proofs.StripeLemmas.{some_stripe}
use Rattle.bin_stripes.specs.declared.ghost_action.GhostAction.{GhostAction}
use Rattle.bin_stripes.specs.Histories.{empty}
use Rattle.bin_stripes.specs.Passes.{IsPass, stripes_of}
use Rattle.bin_stripes.proofs.StepLemmas.{settles_lost}
use Rattle.bin_stripes.proofs.AllSeenLemmas.{sees_just_theirs}
use Rattle.bin_stripes.proofs.PassLemmas.{rests_of, joined_rests, wide_united}
use Rattle.bin_stripes.proofs.map.StripedMap.join.Goals as goal

pub unite-requires-clause-table : goal.unite-requires-clause-table
unite-requires-clause-table c = let shared = c.self.inside.table.shared in (
  c.hear.ensures.same.0 ∙ (c.take-seat.ensures.0 ∙ (ap (λ p. p.map) c.one.view_is ∙ (c.requires.one ∙ sym c.self.view_is))),
  c.take.ensures.0 ∙ (ap (λ p. p.map) c.other.view_is ∙ (c.requires.other ∙ sym c.self.view_is)),
  subst (λ n. 0 < n) (sym c.self.invariant.laid.words) (let some = some_stripe shared.table_id.slots c.self.invariant.count in omega arith),
)

pub unite-requires-clause-rests : goal.unite-requires-clause-rests
unite-requires-clause-rests c = let second = c.other.inside.known in
    (c.hear.ensures.rests.0, rests_of second.table_id second.views c.take.result.me c.other.invariant c.take.ensures.2 c.take.ensures.3)

pub look-requires-clause-table : goal.look-requires-clause-table
look-requires-clause-table c = (
  c.self.invariant.laid,
  c.unite.ensures.same.0 ∙ (c.hear.ensures.same.0 ∙ (c.take-seat.ensures.0 ∙ (ap (λ p. p.map) c.one.view_is ∙ (c.requires.one ∙ sym c.self.view_is)))),
)

pub look-requires-clause-stripe : goal.look-requires-clause-stripe
look-requires-clause-stripe c = some_stripe c.self.inside.table.shared.table_id.slots c.self.invariant.count

pub look-requires-clause-pass : goal.look-requires-clause-pass
look-requires-clause-pass c = let first = c.one.inside.known in let second = c.other.inside.known in
    let v = c.hear.new.seat.me in let w = c.take.result.me in
    let s = rests_of second.table_id second.views w c.other.invariant c.take.ensures.2 c.take.ensures.3 in
    let same : first.table_id ≡ second.table_id = ap (λ p. p.map) c.one.view_is ∙ (c.requires.one ∙ (sym c.requires.other ∙ sym (ap (λ p. p.map) c.other.view_is))) in
    let wide : length v.0.parts ≡ length w.0.parts = c.hear.ensures.heard.wide ∙ (ap (λ (x : View GhostAction). length x.parts) (sym (ap view_of c.take-seat.ensures.2)) ∙ (c.one.invariant.wide ∙ (ap stripes_of same ∙ (sym c.other.invariant.wide ∙ ap (λ (x : View GhostAction). length x.parts) (ap view_of c.take.ensures.2))))) in
    (joined_rests v w c.unite.new.seat.me c.hear.ensures.rests.0 s wide c.unite.ensures.both).some

pub invariant_of-result : goal.invariant_of-result
invariant_of-result c = let shared = c.self.inside.table.shared in let first = c.one.inside.known in let second = c.other.inside.known in
    let v = c.hear.new.seat.me in let w = c.take.result.me in let r = c.hear.ensures.rests.0 in
    let s = rests_of second.table_id second.views w c.other.invariant c.take.ensures.2 c.take.ensures.3 in
    let same : first.table_id ≡ second.table_id = ap (λ p. p.map) c.one.view_is ∙ (c.requires.one ∙ (sym c.requires.other ∙ sym (ap (λ p. p.map) c.other.view_is))) in
    let mine : length v.0.parts ≡ stripes_of first.table_id = c.hear.ensures.heard.wide ∙ (ap (λ (x : View GhostAction). length x.parts) (sym (ap view_of c.take-seat.ensures.2)) ∙ c.one.invariant.wide) in
    let wide : length v.0.parts ≡ length w.0.parts = mine ∙ (ap stripes_of same ∙ (sym c.other.invariant.wide ∙ ap (λ (x : View GhostAction). length x.parts) (ap view_of c.take.ensures.2))) in
    let now = c.unite.new.seat.me in let end = c.look.new.seat.me in let rests = joined_rests v w now r s wide c.unite.ensures.both in
    let e : first.table_id ≡ shared.table_id = ap (λ p. p.map) c.one.view_is ∙ (c.requires.one ∙ sym c.self.view_is) in
    let l = settles_lost (λ _. empty) (λ _ _. true) shared.table_id.slots 0 now end rests c.look.ensures.looked in
    let id : c.of.result.table_id ≡ first.table_id = c.of.ensures.0 ∙ (c.look.ensures.same.0 ∙ (c.unite.ensures.same.0 ∙ (c.hear.ensures.same.0 ∙ c.take-seat.ensures.0))) in
    subst (λ (z : TableId × List (View GhostAction)). IsPass z.0 z.1) (λ i. (sym id i, sym c.of.ensures.2 i)) (record {
      one = refl;
      idle = l.rests.idle;
      some = l.rests.some;
      sound = subst (λ z. Rattle.bin_stripes.specs.Histories.Sound (stripes_of z) end.0) (sym e) l.sound;
      wide = l.wide ∙ (wide_united v.0 w.0 now.0 (ap (λ m. m.0) c.unite.ensures.both) ∙ mine);
    })

pub returns-clause-joined : goal.returns-clause-joined
returns-clause-joined c = let shared = c.self.inside.table.shared in let first = c.one.inside.known in let second = c.other.inside.known in
    let v = c.hear.new.seat.me in let w = c.take.result.me in
    let same : first.table_id ≡ second.table_id = ap (λ p. p.map) c.one.view_is ∙ (c.requires.one ∙ (sym c.requires.other ∙ sym (ap (λ p. p.map) c.other.view_is))) in
    let mine : length v.0.parts ≡ stripes_of first.table_id = c.hear.ensures.heard.wide ∙ (ap (λ (x : View GhostAction). length x.parts) (sym (ap view_of c.take-seat.ensures.2)) ∙ c.one.invariant.wide) in
    let wide : length v.0.parts ≡ length w.0.parts = mine ∙ (ap stripes_of same ∙ (sym c.other.invariant.wide ∙ ap (λ (x : View GhostAction). length x.parts) (ap view_of c.take.ensures.2))) in
    let n = c.slot_count-stripes.result in let heard = hears (view_of second.views) c.take-seat.result.me.0 v.0 n c.hear.ensures.heard in
    let there : view_of second.views ≡ w.0 = ap view_of c.take.ensures.2 in
    let heard' : Hears n w.0 c.take-seat.result.me.0 v.0 = subst (λ x. Hears n x c.take-seat.result.me.0 v.0) there heard in
    let some : 0 < n = subst (λ m. 0 < m) (sym c.slot_count-stripes.ensures) (some_stripe shared.table_id.slots c.self.invariant.count) in
    let now = c.unite.new.seat.me.0 in let end = c.look.new.seat.me.0 in
    let look : Extends (united v.0 w.0) 0 (held_at now 0) end = subst (λ x. Extends x 0 (held_at now 0) end) (ap (λ m. m.0) c.unite.ensures.both) c.look.ensures.looked.extends in
    subst (λ (z : ℕ × View GhostAction × View GhostAction × View GhostAction). IsJoined z.0 z.1 z.2 z.3)
    (λ i. ((c.slot_count-stripes.ensures ∙ ap (λ t. t.slots) c.self.view_is) i, (sym (ap view_of c.take-seat.ensures.2) ∙ ap (λ p. p.view) c.one.view_is) i, (sym there ∙ ap (λ p. p.view) c.other.view_is) i, sym (ap view_of c.of.ensures.2) i))
    (joined n 0 c.take-seat.result.me.0 w.0 v.0 end (held_at now 0) wide heard' some look)

pub returns-clause-once : goal.returns-clause-once
returns-clause-once c =
    sees_just_theirs (stripes_of c.of.result.table_id) (stripes_of c.args.self.now) c.args.one.view c.args.other.view (view_of c.of.result.views)
    (invariant_of-result c).sound (returns-clause-joined c)
