use Rattle.std.proofs.Common.{arith, rules, SFits, w64}
use Rattle.std.proofs.lemmas.Int.{ints, to_z-of_z}
use Rattle.bpf_model.proofs.SignedLemmas.{biased}
use Rattle.value_ranges.proofs.exclusion.without.Goals as goal

pub returns-in_default : goal.returns-in_default
returns-in_default c = λ x p ne. c.in_default.ensures x p.word p.umin ne

pub returns-in_default-signed_lowered : goal.returns-in_default-signed_lowered
returns-in_default-signed_lowered c = λ x p ne.
    c.in_default-signed_lowered.ensures x p.word (omega (arith, ints)) (λ e. ne (omega (arith, ints, biased x p.word, biased c.args.word (omega arith), c.cast_signed-reading.ensures)))

pub returns : goal.returns
returns c = λ x p ne.
    let low : SFits w64 c.in-Some-signed_raised.smin = search rules in
    let high : SFits w64 c.in-Some-signed_lowered.smax = search rules in
    c.tighten.ensures x (record {
      word = p.word;
      umin = c.in-Some.ensures x p.word p.umin ne;
      umax = c.in-Some-lowered.ensures x p.word p.umax ne;
      smin = rw (to_z-of_z w64 c.in-Some-signed_raised.smin low) (c.in-Some-signed_raised.ensures x p.word (omega (arith, ints)) (λ e. ne (omega (arith, ints, biased x p.word, biased c.args.word (omega arith), c.cast_signed-reading.ensures))));
      smax = rw (to_z-of_z w64 c.in-Some-signed_lowered.smax high) (c.in-Some-signed_lowered.ensures x p.word (omega (arith, ints)) (λ e. ne (omega (arith, ints, biased x p.word, biased c.args.word (omega arith), c.cast_signed-reading.ensures))));
    })
