use Rattle.std.proofs.Common.{◌≡◌, refl, ◌∙◌, subst}
use Rattle.bin_stripes.specs.declared.expiry.Expiry.{Expiry}
use Rattle.bin_stripes.specs.declared.expiry.Expiry.TheVariants.{Took}
use Rattle.bin_stripes.specs.Timed.{ExpiresOne}
use Rattle.key_walks.proofs.ChainLemmas.{same_map, same_on}
use Rattle.key_walks.proofs.ExpiryLemmas.{none_yet, one_more, none_left, not_both}
use Rattle.key_walks.proofs.expiring.expire_all.Goals as goal
use Rattle.key_walks.proofs.expiring.expire_all.Goals.{in-Took, in_default}

pub loop-init : goal.loop-init
loop-init g c = record { map = refl; same = same_map c.args.pass.now; took = none_yet c.args.now c.args.pass.now c.args.stripe }

pub returns-then-not-matches-clause-expires : goal.returns-then-not-matches-clause-expires
returns-then-not-matches-clause-expires g c =
    let e = c.expire_one-answer.ensures in
    none_left c.args.now c.args.pass.now c.args.stripe c.loop.pass c.expire_one-answer.new.pass c.expire_one-answer.result c.loop.invariant.took e.same e.expires
    (elim c.match-matches.branch [
      | in-Took w ↦ absurd (not_both c.match-matches.matches w.matches-is c.if-not-matches.true)
      | in_default w ↦ w.in_default.not-Took
    ])

pub loop-preserved : goal.loop-preserved
loop-preserved g c =
    let p = c.args.pass.now in
    let q = c.loop.pass in
    let r = c.expire_one-answer.new.pass in
    let e = c.expire_one-answer.ensures in
    let inv = c.loop.invariant in
    let took : c.expire_one-answer.result ≡ Took = elim c.match-matches.branch [
      | in-Took w ↦ w.in-Took.is
      | in_default w ↦ absurd (not_both c.match-matches.matches c.if-not-matches.false w.matches-is)
    ] in
    record {
      map = e.same.map ∙ inv.map;
      same = same_on p q r inv.same e.same;
      took = one_more c.args.now p c.args.stripe q r inv.took e.same (subst (λ (a : Expiry). ExpiresOne q c.args.stripe c.args.now a r) took e.expires);
    }
