use Rattle.std.proofs.Common.{ap, sym, ◌∙◌}
use Rattle.std.specs.List.{fold}
use Rattle.std.proofs.lemmas.List.{drop_all}
use Rattle.bins.specs.Hashes.{hash, hash_more}
use Rattle.bins.proofs.hashes.hash_of.Goals as goal

pub loop-byte-init : goal.loop-byte-init
loop-byte-init c = c.hash_fours-hash.ensures ∙ ap (fold hash_more 1) c.as_slice.ensures.value

pub returns : goal.returns
unfolding hash
returns c = record { value = sym (ap (fold hash_more c.loop-byte.hash) (drop_all _ _ c.loop-byte-test.false)) ∙ c.loop-byte.invariant }
