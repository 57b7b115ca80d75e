use Rattle.std.proofs.Common.{refl, arith}
use Rattle.std.proofs.lemmas.Int.{ints}
use Rattle.verifier.proofs.EntryLemmas.{entry_describes, entry_exact}
use Rattle.verifier.proofs.GrantLemmas.{entry_grants}
use Rattle.verifier.proofs.abstract_state.AbstractState.entry.Goals as goal

pub returns-clause-describes : goal.returns-clause-describes
returns-clause-describes c = λ input limits bytes fits.
    entry_describes _ _ _ _ _ _ _ _ _ c.args.sizes input (record {
      key = c.address_in.ensures.describes;
      old = c.address_in-2.ensures.describes;
      arg = c.address_in-3.ensures.describes;
      result = c.address_in-4.ensures.describes;
      key_length = λ w h. c.unsigned-key.ensures.holds w (record { word = h.word; umin = h.umin; umax = omega (arith, h.umax, c.from.ensures) });
      old_length = λ w h. c.signed-old.ensures.holds w (record { word = h.word; smin = omega (arith, ints, h.smin); smax = omega (arith, ints, h.smax, c.from-2.ensures) });
      arg_length = λ w h. c.signed-arg.ensures.holds w (record { word = h.word; smin = omega (arith, ints, h.smin); smax = omega (arith, ints, h.smax, c.from-3.ensures) });
      stack = c.address_in-5.ensures.describes;
    }) c.empty.ensures.written c.empty.ensures.describes limits bytes fits

pub returns-clause-exact : goal.returns-clause-exact
returns-clause-exact c =
    let key = c.unsigned-key.ensures.mask (omega (arith, c.from.ensures)) in
    let old = c.signed-old.ensures in
    let arg = c.signed-arg.ensures in
    entry_exact _ _ _ _ _ _ _ _ _ c.args.sizes c.address_in.ensures.exact c.address_in-2.ensures.exact c.address_in-3.ensures.exact c.address_in-4.ensures.exact c.address_in-5.ensures.exact
    (record { range = c.unsigned-key.result; is = refl; least = key.smin; greatest = omega (arith, ints, key.smax, c.from.ensures) })
    (record { range = c.signed-old.result; is = refl; least = omega (arith, ints, old.smin); greatest = omega (arith, ints, old.smax, c.from-2.ensures) })
    (record { range = c.signed-arg.result; is = refl; least = omega (arith, ints, arg.smin); greatest = omega (arith, ints, arg.smax, c.from-3.ensures) })
    c.empty.ensures.written c.empty.ensures.values

pub returns-clause-grants : goal.returns-clause-grants
returns-clause-grants c = entry_grants c.args.sizes _ (returns-clause-exact c)
