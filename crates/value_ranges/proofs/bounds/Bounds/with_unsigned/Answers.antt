use Rattle.std.proofs.Common.{arith, inl, inr}
use Rattle.std.proofs.lemmas.Int.{ints, clamps}
use Rattle.bpf_model.proofs.SignedLemmas.{biased}
use Rattle.value_ranges.proofs.bounds.Bounds.with_unsigned.Goals as goal

pub returns-then-umin-ge9223372036854775808 : goal.returns-then-umin-ge9223372036854775808
returns-then-umin-ge9223372036854775808 c = λ w p.
    let i = biased w p.word in let j = biased c.args.self.umin (omega arith) in let k = biased c.args.self.umax (omega arith) in
    elim c.if-umin-ge9223372036854775808.either [
      | inl t ↦ record { word = p.word; umin = p.umin; umax = p.umax; smin = omega (arith, ints, clamps); smax = omega (arith, ints, clamps) }
      | inr t ↦ record { word = p.word; umin = p.umin; umax = p.umax; smin = omega (arith, ints, clamps); smax = omega (arith, ints, clamps) }
    ]
