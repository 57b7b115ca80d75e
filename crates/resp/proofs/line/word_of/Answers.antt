-- a word whose quotes have no end
use Rattle.std.proofs.Common.{ℕ, List}
use Rattle.resp.specs.Reading.{EndsQuoted, NoWord}
use Rattle.resp.proofs.StreamLemmas.{if_ok_no}
use Rattle.resp.proofs.LineLemmas.{no_quoted}
use Rattle.resp.proofs.line.word_of.Goals as goal

pub returns-in-Some-clause-none : goal.returns-in-Some-clause-none
returns-in-Some-clause-none c =
    let cut = c.plain_word in
    if_ok_no c.word_in_quotes.result ((word rest : List ℕ) → EndsQuoted cut.result.0.now c.in-Some.quote c.in-Some.inside.now word rest → ⊥) (NoWord c.args.bytes.now)
    (no_quoted c.args.bytes.now cut.result.0.now cut.result.1.now c.in-Some.inside.now c.in-Some.quote cut.ensures c.in-Some.ensures.is c.in-Some.ensures.some) c.word_in_quotes.ensures.none
