-- a word after whose quotes there is more of it
use Rattle.std.proofs.Common.{rules, ◌≡◌, ◌++◌, ℕ, List}
use Rattle.resp.specs.LineWords.{IsInQuotes}
use Rattle.resp.proofs.StreamLemmas.{true_or_false}
use Rattle.resp.proofs.LineLemmas.{no_other_end}
use Rattle.resp.proofs.line.word_in_quotes.Goals as goal

pub returns-then-not-is_end-clause-none : goal.returns-then-not-is_end-clause-none
returns-then-not-is_end-clause-none c =
    let read : (quoted : List ℕ) × IsInQuotes c.args.quote c.args.inside.now quoted c.in-Some.rest.now × (c.quoted_at.new.word.items ≡ c.in_ok-word.word.items ++ quoted) = search rules in
    no_other_end c.args.plain.now c.args.inside.now read.0 c.in-Some.rest.now c.args.quote read.1
    (λ stops. true_or_false c.is_end.result (c.is_end.ensures.1 stops) c.if-not-is_end.true)
