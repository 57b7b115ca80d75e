use Rattle.std.proofs.Common.{◌∷◌, [], ◌++◌, ap, ◌∙◌}
use Rattle.bin_stripes.proofs.OpenedLemmas.{zeros_more}
use Rattle.bin_stripes.proofs.open.zero_words.Goals as goal

pub loop-preserved : goal.loop-preserved
loop-preserved c = c.in_ok-push.ensures.items ∙ (ap (λ xs. xs ++ 0 ∷ []) c.loop.invariant ∙ zeros_more c.loop.counter)
