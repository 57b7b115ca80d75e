use Rattle.std.proofs.Common.{◌∙◌}
use Rattle.bin_stripes.proofs.OpeningLemmas.{opens_as}
use Rattle.bin_stripes.proofs.open.opened.Goals as goal

pub new-requires : goal.new-requires
new-requires c = let made = c.in_ok-words in
    opens_as _ _ c.args.stripes c.args.passes _ made.slots.items (c.deref.ensures.value ∙ made.ensures.words) made.ensures.count made.ensures.empty
