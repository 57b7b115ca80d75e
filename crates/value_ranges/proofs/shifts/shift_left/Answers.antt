use Rattle.std.proofs.Common.{◌%◌, ◌^◌, arith, ap, ◌∙◌, sym}
use Rattle.std.proofs.lemmas.Nat.{mod_below, one_shl}
use Rattle.bpf_model.specs.Arithmetic.{bits_of}
use Rattle.bpf_model.proofs.SignedLemmas.{modulus_most, modulus_some}
use Rattle.value_ranges.proofs.WordLemmas.{unsigned_part}
use Rattle.value_ranges.proofs.ShiftLemmas.{shl_within}
use Rattle.value_ranges.proofs.shifts.shift_left.Goals as goal

pub returns-in-Some-checked_mul : goal.returns-in-Some-checked_mul
returns-in-Some-checked_mul c = λ x y p q.
    let h = c.in-Some-checked_mul.ensures in
    let same = c.shift_amount.ensures.value ∙ ap (λ v. v % bits_of c.args.width) (sym (c.in-Some.ensures.only y q)) in
    let factor = one_shl c.shift_amount.result 64 c.shift_amount.ensures.bounded ∙ ap (λ e. 2 ^ e) same in
    rw (← factor) (c.unsigned.ensures.holds _ (rw h.1 (shl_within x _ _ _ _ (modulus_most c.args.width) (unsigned_part x _ _ _ _ p) (omega (arith, h.1)))))

pub returns-in_default : goal.returns-in_default
returns-in_default c = λ x y p q. c.any-in_default.ensures _ (mod_below _ _ (modulus_some c.args.width))

pub returns-in-None : goal.returns-in-None
returns-in-None c = λ x y p q. c.any.ensures _ (mod_below _ _ (modulus_some c.args.width))
