-- A new map keeps the rule.
use Rattle.std.proofs.Common.{◌≡◌, ℕ, Bool, List, Option, length, All, sym, subst}
use Rattle.std.proofs.lemmas.List.{length-replicate, get_or-replicate}
use Rattle.atomic_table.specs.Table.{opening}
use Rattle.stripe_rule.specs.Words.{words_of}
use Rattle.stripe_rule.specs.Rule.{Kept, opener}
use Rattle.stripe_rule.proofs.OpenLemmas.{opens}
use Rattle.bins.specs.Table.{Table}
use Rattle.bin_stripes.specs.Histories.{empty, does}
use Rattle.bin_stripes.specs.Holding.{IsEmptyBins}
use Rattle.bin_stripes.specs.Saves.{keeps}
use Rattle.bin_stripes.proofs.OpenedLemmas.{zeros}
use Rattle.bin_stripes.proofs.SaveLemmas.{all_empty}

-- words of 0, and bins without entries
pub opens_as : {B : Type 0} (content : B → Table) (noted : B → List ℕ → Bool) (n passes : ℕ) (words : List ℕ) (homes : List (Option B)) → words ≡ zeros (words_of n) → length homes ≡ n → All (IsEmptyBins content) homes
    → Kept (does n) empty content (keeps content noted) n passes (opening words homes (opener n passes))
opens_as content noted n passes words homes is wide bins = let none : ℕ = 0 in
    subst (λ (xs : List ℕ). Kept (does n) empty content (keeps content noted) n passes (opening xs homes (opener n passes))) (sym is)
    (opens (does n) empty content (keeps content noted) n passes (zeros (words_of n)) homes (length-replicate (words_of n) none) wide (λ i inside. get_or-replicate (words_of n) i none none inside) (all_empty content noted homes bins))
