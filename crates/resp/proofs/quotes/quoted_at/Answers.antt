-- one byte more, and the other quote
use Rattle.std.proofs.Common.{◌≡◌, ◌≢◌, List, ℕ, [], ◌∷◌, ◌++◌, ap, ◌∙◌, append_assoc}
use Rattle.resp.specs.LineWords.{IsInQuotes}
use Rattle.resp.proofs.StreamLemmas.{if_some, if_no}
use Rattle.resp.proofs.QuoteLemmas.{goes_in_item, goes_in_end, goes_in_no_end}
use Rattle.resp.proofs.quotes.quoted_at.Goals as goal

pub loop-byte-preserved : goal.loop-byte-preserved
loop-byte-preserved c =
    let (quoted, is, goes) = c.loop-byte.invariant in
    let byte = c.in-Some.byte in (
      quoted ++ byte ∷ [],
      c.push_reserved.ensures.items ∙ ap (λ (t : List ℕ). t ++ byte ∷ []) (c.reserve.ensures.items ∙ is) ∙ append_assoc c.args.word.now.items quoted (byte ∷ []),
      goes_in_item c.args.quote c.args.bytes.now quoted c.loop-byte.rest.now c.in-Some.next.now byte goes c.in-Some.ensures.some,
    )

pub returns-clause-some : goal.returns-clause-some
returns-clause-some c =
    let (quoted, is, goes) = c.loop-byte.invariant in
    if_some c.after.result (λ rest. c.loop-byte.rest.now ≡ c.args.quote ∷ rest.now) (λ rest. (x : List ℕ) × IsInQuotes c.args.quote c.args.bytes.now x rest.now × (c.loop-byte.word.items ≡ c.args.word.now.items ++ x))
    (λ rest e. (quoted, goes_in_end c.args.quote c.args.bytes.now quoted c.loop-byte.rest.now rest.now goes e, is)) c.after.ensures.some

pub returns-clause-none : goal.returns-clause-none
returns-clause-none c =
    let (quoted, is, goes) = c.loop-byte.invariant in
    if_no c.after.result ((rest : List ℕ) → c.loop-byte.rest.now ≢ c.args.quote ∷ rest) ((all end : List ℕ) → IsInQuotes c.args.quote c.args.bytes.now all end → ⊥)
    (goes_in_no_end c.args.quote c.args.bytes.now quoted c.loop-byte.rest.now goes c.in_default.ensures.none) c.after.ensures.none
