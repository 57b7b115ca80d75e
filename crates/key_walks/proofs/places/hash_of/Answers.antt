use Rattle.std.proofs.Common.{ap, sym, ◌∙◌}
use Rattle.std.specs.List.{fold}
use Rattle.std.proofs.lemmas.List.{drop_all}
use Rattle.key_walks.specs.Places.{fnv, fnv_more}
use Rattle.key_walks.proofs.places.hash_of.Goals as goal

pub returns : goal.returns
unfolding fnv
returns c = record { value = sym (ap (fold fnv_more c.loop-byte.hash) (drop_all _ _ c.loop-byte-test.false)) ∙ c.loop-byte.invariant }
