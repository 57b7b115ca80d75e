use Rattle.stack_slots.proofs.LoadLemmas.{signed_byte_within, signed_half_word_within, signed_word_within}
use Rattle.stack_slots.proofs.loads.loadable.Goals as goal

pub returns-in-DoubleWord-default : goal.returns-in-DoubleWord-default
returns-in-DoubleWord-default c = record {
  holds = rw c.in-DoubleWord-default.is-0 (λ n lt. c.full.ensures n lt);
  bounds = rw c.in-DoubleWord-default.is-0 c.full.ensures;
}

pub returns-in-Byte-true-clause-holds : goal.returns-in-Byte-true-clause-holds
returns-in-Byte-true-clause-holds c = rw (c.in-Byte-true.is-0, c.in-Byte-true.is-1) (λ n lt. c.signed.ensures.holds _ (signed_byte_within n))

pub returns-in-HalfWord-true-clause-holds : goal.returns-in-HalfWord-true-clause-holds
returns-in-HalfWord-true-clause-holds c = rw (c.in-HalfWord-true.is-0, c.in-HalfWord-true.is-1) (λ n lt. c.signed-in-HalfWord-true.ensures.holds _ (signed_half_word_within n))

pub returns-in-Word-true-clause-holds : goal.returns-in-Word-true-clause-holds
returns-in-Word-true-clause-holds c = rw (c.in-Word-true.is-0, c.in-Word-true.is-1) (λ n lt. c.signed-in-Word-true.ensures.holds _ (signed_word_within n))
