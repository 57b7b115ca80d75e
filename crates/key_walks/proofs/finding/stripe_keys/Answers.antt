use Rattle.std.proofs.Common.{inl, inr}
use Rattle.key_walks.proofs.ChainLemmas.{on_err}
use Rattle.key_walks.proofs.FindingLemmas.{finds_keys}
use Rattle.key_walks.proofs.finding.stripe_keys.Goals as goal

pub returns-in_err-copy_stripe-clause-err : goal.returns-in_err-copy_stripe-clause-err
returns-in_err-copy_stripe-clause-err g c = on_err _ (inl c.in_err-copy_stripe.ensures.err.0)

-- the scan was made
pub returns-in_err-keys-clause-err : goal.returns-in_err-keys-clause-err
returns-in_err-keys-clause-err g c = on_err _ (inr (c.in_ok-copy_stripe.ensures.ok.entries, c.in_ok-copy_stripe.ensures.ok.scans))

pub returns-clause-ok : goal.returns-clause-ok
returns-clause-ok g c =
    finds_keys _ _ _ _ _ c.in_ok-keys.keys.items c.new-found.ensures c.in_ok-copy_stripe.ensures.ok c.in_ok-keys.ensures
