use Rattle.std.proofs.Common.{◌≡◌, ℕ, ◌<◌, sym, ap, ◌∙◌, subst}
use Rattle.atomic_table.specs.Seated.{TableId}
use Rattle.stripe_rule.specs.Gains.{IsJoined}
use Rattle.bin_stripes.specs.Passes.{stripes_of}
use Rattle.crews.proofs.JointLemmas.{sees_lives}
use Rattle.crews.proofs.WholeLemmas.{sees_sessions}
use Rattle.crews.proofs.whole.join_crews.Goals as goal

pub returns-clause-served : goal.returns-clause-served
returns-clause-served c =
    let left = c.join_crew-one.result in
    let right = c.join_crew-other.result in
    let joined = c.join-joined.result in
    let at : joined.map ≡ c.args.map.now = c.join-joined.ensures.same.map ∙ c.join_crew-one.ensures.map in
    let low : (k : ℕ) → k < stripes_of joined.map → k < stripes_of c.args.map.now = λ k lt. subst (λ (n : ℕ). k < n) (ap stripes_of at) lt in
    sees_sessions c.args.one c.args.other left right joined (λ k lt. c.join_crew-one.ensures.joins k (low k lt)) (λ k lt. c.join_crew-other.ensures.joins k (low k lt))
    (c.requires.one.pass ∙ sym at) (c.requires.other.pass ∙ sym at)
    (subst (λ (id : TableId). IsJoined (stripes_of id) left.view right.view joined.view) (sym at) c.join-joined.ensures.joined) c.vouch.ensures.sound

pub returns-clause-lived : goal.returns-clause-lived
returns-clause-lived c =
    let left = c.join_crew-one.result in
    let right = c.join_crew-other.result in
    let joined = c.join-joined.result in
    let at : joined.map ≡ c.args.map.now = c.join-joined.ensures.same.map ∙ c.join_crew-one.ensures.map in
    let low : (k : ℕ) → k < stripes_of joined.map → k < stripes_of c.args.map.now = λ k lt. subst (λ (n : ℕ). k < n) (ap stripes_of at) lt in
    sees_lives c.args.one c.args.other left right joined (λ k lt. c.join_crew-one.ensures.joins k (low k lt)) (λ k lt. c.join_crew-other.ensures.joins k (low k lt))
    (c.requires.one.pass ∙ sym at) (c.requires.other.pass ∙ sym at)
    (subst (λ (id : TableId). IsJoined (stripes_of id) left.view right.view joined.view) (sym at) c.join-joined.ensures.joined) c.vouch.ensures.sound
