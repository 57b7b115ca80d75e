use Rattle.std.proofs.Common.{◌≡◌, ◌∙◌, ◌≤◌, List, ℕ, ◌++◌, length, take, get_or, sym, ap, append-nil, arith}
use Rattle.std.proofs.lemmas.Grind.{common_steps}
use Rattle.std.proofs.lemmas.List.{take_rest, nil_from_length}
use Rattle.clap.specs.Walk.{texts}
use Rattle.map_commands.specs.Shown.{shown_own, shown_word, told}
use Rattle.map_commands.proofs.ShownLemmas.{told-none, told-own, told-echo, told-more}
use Rattle.map_commands.proofs.shown.told.Goals as goal

pub loop-rest-preserved-then-length-eq0 : goal.loop-rest-preserved-then-length-eq0
loop-rest-preserved-then-length-eq0 c =
    let words = texts c.args.words.now in
    let rest = c.loop-rest.rest.now in
    let none = sym c.longest_echo-length.ensures.value ∙ c.if-length-eq0.true in
    let some : 1 ≤ length rest = grind (arith, common_steps, c.loop-rest-test.true) in
    let step = told-own words rest some none ∙ ap (λ (xs : List ℕ). shown_own (get_or rest 0 0) ++ told words xs) (sym (take_rest rest 1)) in
    told-more words _ rest _ c.loop-rest.shown.items _ _ c.loop-rest.invariant step c.in_ok-show_own.ensures

pub loop-rest-preserved : goal.loop-rest-preserved
loop-rest-preserved c =
    let words = texts c.args.words.now in
    let rest = c.loop-rest.rest.now in
    let n = c.longest_echo-length.result in
    let some : 1 ≤ n = omega (arith, c.if-length-eq0.false) in
    let step = told-echo words rest n some c.longest_echo-length.ensures.inside (sym c.longest_echo-length.ensures.value) ∙ ap (λ (xs : List ℕ). shown_word (take n rest) ++ told words xs) (sym (take_rest rest n)) in
    told-more words _ rest _ c.loop-rest.shown.items _ _ c.loop-rest.invariant step c.in_ok-show_word.ensures

pub returns : goal.returns
returns c =
    let words = texts c.args.words.now in
    let none : length c.loop-rest.rest.now ≡ 0 = grind (arith, common_steps, c.loop-rest-test.false) in
    sym (append-nil c.loop-rest.shown.items) ∙ ap (λ (xs : List ℕ). c.loop-rest.shown.items ++ xs) (sym (told-none words) ∙ ap (told words) (sym (nil_from_length c.loop-rest.rest.now none))) ∙ c.loop-rest.invariant
