use Rattle.std.proofs.Common.{◌≡◌, sym, ap, subst}
use Rattle.std.specs.Prelude.{Result, Err, IsErrAnd}
use Rattle.atomic_methods.specs.declared.reply.Reply.{Reply}
use Rattle.bin_stripes.specs.declared.fault.CallFault.{CallFault}
use Rattle.bin_stripes.proofs.map.StripedMap.try_call.Goals as goal

-- the fault is the one that `try_call_into` gave
pub returns-in_err-kind-clause-memory : goal.returns-in_err-kind-clause-memory
returns-in_err-kind-clause-memory c =
    λ refused. c.in_err-kind.ensures.memory (ap Err (sym (subst (λ (r : Result Reply CallFault). IsErrAnd r (λ fault. fault ≡ c.in_err-kind.field-0.0)) refused c.from_residual.ensures.1)))
