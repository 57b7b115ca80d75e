use Rattle.std.proofs.Common.{◌≡◌, ◌+◌, ◌/◌, length, ap, ◌∙◌, arith, refl}
use Rattle.std.proofs.Common.{add-one}
use Rattle.bins.specs.Mixed.{mixed, after_words}
use Rattle.bins.proofs.hashes.mixed_hash.Goals as goal

pub loop-number-init : goal.loop-number-init
unfolding after_words
loop-number-init c = refl

pub word-requires : goal.word-requires
word-requires c = omega (arith, c.loop-number-test.true, c.div_ceil-number-end.ensures)

pub loop-number-preserved : goal.loop-number-preserved
unfolding after_words
loop-number-preserved c = rw (add-one, c.folded-hash.ensures, c.word.ensures, c.loop-number.invariant) refl

pub returns : goal.returns
unfolding mixed
returns c = c.loop-number.invariant ∙ ap (after_words c.args.seed.now c.args.key.now) (let many : c.loop-number.number ≡ (length c.args.key.now + 7) / 8 = omega (arith, c.loop-number-test.false, c.div_ceil-number-end.ensures, c.loop-number.auto.number-end) in many)
