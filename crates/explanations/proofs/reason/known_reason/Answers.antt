use Rattle.explanations.proofs.reason.known_reason.Goals as goal

pub reason_in-requires : goal.reason_in-requires
reason_in-requires c =
    record {
      program = c.instructions-program.ensures.program;
      known = rw (c.instructions-program.ensures.value, c.program-2.ensures.value, c.deref.ensures.value) c.in_ok-states.ensures.sound;
    }
