use Rattle.std.proofs.Common.{◌≡◌, ◌+◌, ◌/◌, length, refl, arith}
use Rattle.bins.specs.Mixed.{mixed, after_words, word_at}
use Rattle.bins.proofs.hashes.hash_of_eight.Goals as goal

pub returns : goal.returns
unfolding mixed after_words word_at
returns c =
    let one : (length c.args.key.now + 7) / 8 ≡ 1 = omega (arith, c.requires) in
    rw (one, c.requires, c.folded.ensures, c.front_of.ensures.value) refl
