use Rattle.std.proofs.Common.{◌%◌, ◌^◌, arith, rules, ap, ◌∙◌, sym, SFits, w64}
use Rattle.std.specs.Int.Signed.{shr_z}
use Rattle.std.proofs.lemmas.Nat.{pow_pos}
use Rattle.std.proofs.lemmas.Int.{ints, clamps}
use Rattle.value_ranges.proofs.WordLemmas.{signed_part}
use Rattle.value_ranges.proofs.ShiftLemmas.{shift_within, some_shift_within, shr_mono, shifted_is}
use Rattle.value_ranges.proofs.shifts.shift_right_signed_double_words.Goals as goal

pub signed-requires-in-Some : goal.signed-requires-in-Some
signed-requires-in-Some c =
    let low : SFits w64 c.args.a.smin = search rules in
    let high : SFits w64 c.args.a.smax = search rules in
    rw (shifted_is c.args.a.smin (2 ^ c.shift_amount-amount.result) low, shifted_is c.args.a.smax (2 ^ c.shift_amount-amount.result) high) (shr_mono _ _ _ (pow_pos c.shift_amount-amount.result) c.args.a.signed_order)

pub returns-in-None : goal.returns-in-None
returns-in-None c = λ x y p q. c.signed.ensures.holds _ (some_shift_within x y _ _ _ _ (signed_part x _ _ _ _ p) (omega (arith, ints, clamps)) (omega (arith, ints, clamps)) (omega (arith, ints, clamps)) (omega (arith, ints, clamps)))

pub returns-in-Some : goal.returns-in-Some
returns-in-Some c = λ x y p q.
    let low : SFits w64 c.args.a.smin = search rules in
    let high : SFits w64 c.args.a.smax = search rules in
    let same = c.shift_amount-amount.ensures.value ∙ ap (λ v. v % 64) (sym (c.in-Some.ensures.only y q)) in
    c.signed-in-Some.ensures.holds _ (shift_within x y c.args.a.smin c.args.a.smax _ _ (signed_part x _ _ _ _ p)
    (shifted_is c.args.a.smin (2 ^ c.shift_amount-amount.result) low ∙ ap (λ k. shr_z c.args.a.smin (2 ^ k)) same)
    (shifted_is c.args.a.smax (2 ^ c.shift_amount-amount.result) high ∙ ap (λ k. shr_z c.args.a.smax (2 ^ k)) same))
