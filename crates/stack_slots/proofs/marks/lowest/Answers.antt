use Rattle.std.proofs.Common.{◌≡◌, ◌*◌, ◌^◌, ◌%◌, ◌-◌, ◌∙◌, ap, refl, ℕ, arith}
use Rattle.std.specs.Prelude.{nat_lt}
use Rattle.std.proofs.lemmas.Bool.Decides.{nat_tests}
use Rattle.std.proofs.lemmas.Nat.{one_shl}
use Rattle.stack_slots.proofs.MarkLemmas.{bit, bit-lowest}
use Rattle.stack_slots.proofs.marks.lowest.Goals as goal

pub returns-then-n-lt-WORD_BITS : goal.returns-then-n-lt-WORD_BITS
returns-then-n-lt-WORD_BITS c =
    let n = c.args.n in
    let whole : (1 * 2 ^ n) % 2 ^ 64 ≡ 2 ^ n = one_shl n 64 (omega arith) in
    record { bits = λ k below. ap (λ (m : ℕ). bit (m - 1) k) whole ∙ bit-lowest n k }

pub returns-else-n-lt-WORD_BITS : goal.returns-else-n-lt-WORD_BITS
returns-else-n-lt-WORD_BITS c = record { bits = λ k below. let within : nat_lt k c.args.n ≡ nat_lt k 64 = grind (arith, nat_tests) in bit-lowest 64 k ∙ (rw within refl) }
