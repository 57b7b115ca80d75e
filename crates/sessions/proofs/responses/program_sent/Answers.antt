use Rattle.admission.proofs.AdmissionLemmas.{refused_unit}
use Rattle.sessions.specs.Asking.{program_limits}
use Rattle.sessions.proofs.responses.program_sent.Goals as goal

pub refusal_of-requires : goal.refusal_of-requires
refusal_of-requires c =
    refused_unit (program_limits c.args.hello) c.args.bytes.now c.args.sizes c.in-Err.fault (rw c.program_limits.ensures at c.in-Err.ensures.err)
