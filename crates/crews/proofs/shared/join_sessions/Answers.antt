use Rattle.std.proofs.Common.{sym, ◌∙◌, subst}
use Rattle.atomic_table.specs.Seated.{TableId}
use Rattle.stripe_rule.specs.Gains.{IsJoined}
use Rattle.bin_stripes.specs.Passes.{stripes_of}
use Rattle.crews.proofs.SharedLemmas.{sees_both, sees_all}
use Rattle.crews.proofs.shared.join_sessions.Goals as goal

pub returns-clause-shared : goal.returns-clause-shared
returns-clause-shared c =
    sees_both c.args.one c.args.other c.join-joined.result c.join-joined.ensures.same.map (c.requires.other ∙ sym c.requires.one)
    (subst (λ (id : TableId). IsJoined (stripes_of id) c.args.one.view c.args.other.view c.join-joined.result.view) (sym c.requires.one) c.join-joined.ensures.joined) c.vouch.ensures.sound

pub returns-clause-served : goal.returns-clause-served
returns-clause-served c =
    sees_all c.args.one c.args.other c.join-joined.result c.join-joined.ensures.same.map (c.requires.other ∙ sym c.requires.one)
    (subst (λ (id : TableId). IsJoined (stripes_of id) c.args.one.view c.args.other.view c.join-joined.result.view) (sym c.requires.one) c.join-joined.ensures.joined) c.vouch.ensures.sound
