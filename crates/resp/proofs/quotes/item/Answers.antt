-- no byte of a word is first
use Rattle.std.proofs.Common.{ℕ, List}
use Rattle.resp.specs.LineWords.{IsDoubleItem, IsSingleItem, IsItem}
use Rattle.resp.proofs.StreamLemmas.{if_no}
use Rattle.resp.proofs.QuoteLemmas.{no_double_item, no_single_item}
use Rattle.resp.proofs.quotes.item.Goals as goal

pub returns-then-quote-eq34-clause-none : goal.returns-then-quote-eq34-clause-none
returns-then-quote-eq34-clause-none c =
    if_no c.double_item.result ((byte : ℕ) (rest : List ℕ) → IsDoubleItem c.args.bytes.now byte rest → ⊥) ((byte : ℕ) (rest : List ℕ) → IsItem c.args.quote c.args.bytes.now byte rest → ⊥)
    (no_double_item c.args.quote c.args.bytes.now c.if-quote-eq34.true) c.double_item.ensures.none

pub returns-clause-none : goal.returns-clause-none
returns-clause-none c =
    if_no c.single_item.result ((byte : ℕ) (rest : List ℕ) → IsSingleItem c.args.bytes.now byte rest → ⊥) ((byte : ℕ) (rest : List ℕ) → IsItem c.args.quote c.args.bytes.now byte rest → ⊥)
    (no_single_item c.args.quote c.args.bytes.now c.if-quote-eq34.false) c.single_item.ensures.none
