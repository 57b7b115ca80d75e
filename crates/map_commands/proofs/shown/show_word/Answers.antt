use Rattle.std.proofs.Common.{◌∙◌, ◌≤◌, ◌++◌, List, ℕ, length, take, sym, ap, arith}
use Rattle.std.proofs.lemmas.List.{take_all}
use Rattle.std.specs.List.{flat_map}
use Rattle.map_commands.specs.Shown.{shown_byte}
use Rattle.map_commands.proofs.ShownLemmas.{short_word}
use Rattle.map_commands.proofs.shown.show_word.Goals as goal

pub returns-else-word-gt-MOST_SHOWN : goal.returns-else-word-gt-MOST_SHOWN
returns-else-word-gt-MOST_SHOWN c =
    let word = c.args.word.now in
    let shorter = c.if-word-gt-MOST_SHOWN.false in
    let count : length word ≤ c.min.result = omega (arith, c.min.ensures, shorter) in
    let all = take_all c.loop-byte.byte-index (take c.min.result word) c.loop-byte-test.false ∙ take_all c.min.result word count ∙ sym (take_all 80 word shorter) in
    c.loop-byte.invariant ∙ ap (λ (xs : List ℕ). c.args.shown.now.items ++ xs) (ap (flat_map shown_byte) all ∙ short_word word c.if-word-gt-MOST_SHOWN.false)
