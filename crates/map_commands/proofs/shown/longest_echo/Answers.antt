use Rattle.std.proofs.Common.{◌≡◌, ◌∙◌, ◌<◌, List, ℕ, length, get_or, sym, [], Bor, arith}
use Rattle.std.specs.Prelude.{max}
use Rattle.std.proofs.lemmas.Grind.{common_steps}
use Rattle.std.proofs.lemmas.List.{get_or-map}
use Rattle.clap.specs.Walk.{texts}
use Rattle.map_commands.proofs.ShownLemmas.{longest_echo-next}
use Rattle.map_commands.proofs.shown.longest_echo.Goals as goal

max_assoc : (a b c : ℕ) → max (max a b) c ≡ max a (max b c)
max_assoc a b c = omega arith

pub loop-word-preserved : goal.loop-word-preserved
loop-word-preserved c =
    let text = c.args.text.now in
    let words = texts c.args.words.now in
    let k = c.loop-word.word-index in
    let within : k < length words = grind (arith, common_steps, c.loop-word-test.true) in
    let here : get_or words k [] ≡ c.as_bytes.result.now = get_or-map (λ (x : Bor (List ℕ)). x.now) c.args.words.now k _ [] c.loop-word-test.true ∙ sym c.as_bytes.ensures.value in
    let step = longest_echo-next text words k within in
    let next = rw (here, ← c.word_echo.ensures.value) at step in
    let all = rw next at c.loop-word.invariant.all in
    record {
      all = rw c.max-longest.ensures (max_assoc c.loop-word.longest c.word_echo.result _ ∙ all);
      inside = omega (arith, c.max-longest.ensures, c.word_echo.ensures.inside, c.loop-word.invariant.inside);
    }
