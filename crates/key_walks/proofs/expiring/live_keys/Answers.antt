use Rattle.bin_stripes.specs.Passes.{PassState}
use Rattle.key_walks.specs.Turns.{FindsKeys, MayScan}
use Rattle.key_walks.proofs.ExpiryLemmas.{and_then, ok_then, err_then}
use Rattle.key_walks.proofs.expiring.live_keys.Goals as goal

pub returns-clause-ok : goal.returns-clause-ok
returns-clause-ok g c =
    let k = c.args.stripe in
    let gone = c.expire_all.ensures in
    ok_then c.stripe_keys.result _ _
    (λ keys found. and_then c.args.now (λ (p q : PassState). FindsKeys p k keys.items q) c.args.pass.now k c.expire_all.new.pass c.stripe_keys.new.pass gone.same gone.expires found)
    c.stripe_keys.ensures.ok

pub returns-clause-err : goal.returns-clause-err
returns-clause-err g c =
    let k = c.args.stripe in
    let gone = c.expire_all.ensures in
    err_then c.stripe_keys.result
    (and_then c.args.now (λ (p q : PassState). MayScan p k q) c.args.pass.now k c.expire_all.new.pass c.stripe_keys.new.pass gone.same gone.expires)
    c.stripe_keys.ensures.err
