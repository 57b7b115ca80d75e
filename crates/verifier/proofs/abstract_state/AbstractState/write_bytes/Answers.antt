use Rattle.std.proofs.Common.{refl, sym, arith}
use Rattle.stack_slots.specs.Accesses.{MayBeAt}
use Rattle.verifier.proofs.WindowLemmas.{stores_describes}
use Rattle.verifier.proofs.abstract_state.AbstractState.write_bytes.Goals as goal

pub returns-in-Some-clause-ok : goal.returns-in-Some-clause-ok
returns-in-Some-clause-ok c = λ s address w d p stands.
    let a = c.args.self.now in
    let access = c.in-Some.access in
    let is = c.in-Some.ensures.value in
    let some = c.in-Some.ensures.some.0 refl in
    let at : MayBeAt access p.distance = record { least = omega (arith, is.least_is, p.least); greatest = omega (arith, is.greatest_is, p.greatest) } in
    let moved = stores_describes a c.store.new.self access c.args.sizes s p.distance w (rw is.window_is some.0) at (rw (is.window_is, is.greatest_is, is.size_is) some.1) d c.store.ensures.written (c.store.ensures.describes s.memory p.distance w at stands d.frame) in
    rw (is.window_is, is.size_is, sym p.is) at moved

pub returns-in-Some-clause-kept : goal.returns-in-Some-clause-kept
returns-in-Some-clause-kept c = (c.in-Some.ensures.some.0 refl).0
