use Rattle.std.proofs.Common.{arith}
use Rattle.verifier.proofs.RegisterLemmas.{set_describes, set_exactly}
use Rattle.verifier.proofs.abstract_state.AbstractState.set.Goals as goal

pub returns-clause-sound : goal.returns-clause-sound
returns-clause-sound c = λ sizes s units w d stands.
    rw c.number.ensures.value (set_describes c.args.self.now sizes s units c.args.dst w c.args.value d stands c.requires.target (omega arith))

pub returns-clause-exact : goal.returns-clause-exact
returns-clause-exact c =
    rw c.number.ensures.value (set_exactly c.args.self.now c.args.dst c.args.value (omega arith))
