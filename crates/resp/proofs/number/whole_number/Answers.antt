-- texts of no number
use Rattle.std.proofs.Common.{ℕ, ◌≤◌, ◌≢◌, decimal, ◌∙◌, sym}
use Rattle.resp.proofs.StreamLemmas.{if_none, not_empty}
use Rattle.resp.proofs.NumberLemmas.{no_text, more_text}
use Rattle.resp.proofs.number.whole_number.Goals as goal

pub returns-in_err-n-clause-none : goal.returns-in_err-n-clause-none
returns-in_err-n-clause-none c =
    if_none c.from_residual.result ((n : ℕ) → n ≤ c.args.most → c.args.text.now ≢ decimal n)
    (λ n within. no_text c.args.most n c.args.text.now c.requires c.in_err-n.ensures.none within)

pub returns-then-not-is_empty-clause-none : goal.returns-then-not-is_empty-clause-none
returns-then-not-is_empty-clause-none c =
    λ n within. more_text c.args.most c.in_ok-n.n n c.args.text.now c.in_ok-n.rest.now c.requires c.in_ok-n.ensures.range (not_empty c.in_ok-n.rest.now (sym c.is_empty.ensures ∙ c.if-not-is_empty.true)) c.in_ok-n.ensures.some c.in_ok-n.ensures.ends within
