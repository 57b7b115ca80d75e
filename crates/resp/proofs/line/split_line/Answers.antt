-- one word more, and the end
use Rattle.std.proofs.Common.{rules, arith, ◌≡◌, List, Bor, ℕ, [], ◌∷◌, ◌++◌, length, ap, sym, ◌∙◌}
use Rattle.std.proofs.lemmas.List.{length-append}
use Rattle.resp.specs.Grammar.{texts}
use Rattle.resp.proofs.StreamLemmas.{empty_is, not_empty}
use Rattle.resp.proofs.LineLemmas.{begins_shorter, goes_on_blanks, goes_on_more, all_words, no_words}
use Rattle.resp.proofs.line.split_line.Goals as goal

pub loop-rest-init : goal.loop-rest-init
loop-rest-init c =
    (rw c.requires (goes_on_blanks c.args.line.now c.after_blanks.result.0.now c.after_blanks.result.1.now c.after_blanks.ensures), c.after_blanks.ensures.2)

pub returns-in_default-clause-err : goal.returns-in_default-clause-err
returns-in_default-clause-err c =
    no_words c.args.line.now c.loop-rest.rest.now (texts c.loop-rest.words.items) c.loop-rest.invariant.0 (not_empty c.loop-rest.rest.now (sym c.is_empty.ensures ∙ c.loop-rest-test.true)) c.loop-rest.invariant.1 (search rules)

pub loop-rest-preserved : goal.loop-rest-preserved
loop-rest-preserved c =
    let cut = c.after_blanks-in-loop-rest in
    let word = c.in-Some.word in
    let items : c.push_reserved.new.self.items ≡ c.loop-rest.words.items ++ word ∷ [] =
    c.push_reserved.ensures.items ∙ ap (λ (ws : List (Bor (List ℕ))). ws ++ word ∷ []) c.reserve.ensures.items in
    (rw items (goes_on_more c.args.line.now c.loop-rest.rest.now c.in-Some.tail.now cut.result.0.now cut.result.1.now c.loop-rest.words.items word c.loop-rest.invariant.0 c.loop-rest.invariant.1 (search rules) cut.ensures), cut.ensures.2)

pub loop-rest-smaller : goal.loop-rest-smaller
loop-rest-smaller c =
    let cut = c.after_blanks-in-loop-rest in
    omega (arith, ap length cut.ensures.0, length-append cut.result.0.now cut.result.1.now, begins_shorter c.loop-rest.rest.now c.in-Some.word.now c.in-Some.tail.now (search rules))

pub returns-clause-ok : goal.returns-clause-ok
returns-clause-ok c =
    all_words c.args.line.now c.loop-rest.rest.now (texts c.loop-rest.words.items) c.loop-rest.invariant.0 (empty_is c.loop-rest.rest.now (sym c.is_empty.ensures ∙ c.loop-rest-test.false))
