-- a backslash that is the last byte
use Rattle.std.proofs.Common.{ℕ, List, ◌∷◌}
use Rattle.resp.specs.LineWords.{IsDoubleItem}
use Rattle.resp.proofs.StreamLemmas.{if_no}
use Rattle.resp.proofs.QuoteLemmas.{no_escape}
use Rattle.resp.proofs.quotes.double_item.Goals as goal

pub returns-in-92-clause-none : goal.returns-in-92-clause-none
returns-in-92-clause-none c =
    if_no c.escape_at.result ((byte : ℕ) (rest : List ℕ) → IsDoubleItem (92 ∷ c.in_ok-first.rest.now) byte rest → ⊥) ((byte : ℕ) (rest : List ℕ) → IsDoubleItem c.args.bytes.now byte rest → ⊥)
    (no_escape c.args.bytes.now c.in_ok-first.rest.now c.in_ok-first.first c.in_ok-first.ensures.some c.in-92.is) c.escape_at.ensures.none
