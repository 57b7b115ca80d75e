-- What is told at the end of a talk.
use Rattle.std.proofs.Common.{◌≡◌, ℕ, true, false, List, Option, Some, ap, subst, inl, inr}
use Rattle.devices.specs.Devices.{SinkState, TakesBytes, TakesPart}
use Rattle.resp.specs.declared.fault.RespFault.{RespFault}
use Rattle.resp.specs.Faults.{fault_message}
use Rattle.resp.specs.Replies.{error_bytes}
use Rattle.resp.specs.declared.fault.NextFault.{NextFault}
use Rattle.resp.specs.declared.fault.NextFault.TheVariants.{Faulty}
use Rattle.redis_service.specs.Talks.{TalkState, ended, faulty, Ends}
use Rattle.redis_service.specs.Stops.{IsLast, Stops, TellsEnd, FailsEnd}

-- a talk that isn't over has come to this
last_of : (stop : Option NextFault) (talk : TalkState) (rest : List ℕ) → Stops stop talk rest → talk.is_over ≡ false → IsLast stop rest
last_of stop talk rest stops goes = elim stops [ inl over ↦ absurd cc | inr last ↦ last.1 ]

-- the fault that is told
fault_ends : (rest bytes : List ℕ) (talk next : TalkState) (stop : Option NextFault) (fault : RespFault) → Stops stop talk rest → stop ≡ Some (Faulty fault) → talk.is_over ≡ false → next ≡ ended talk
    → bytes ≡ fault_message fault → Ends (faulty fault) rest talk (error_bytes bytes) next
fault_ends rest bytes talk next stop fault stops is goes end text =
    (last_of (Some (Faulty fault)) talk rest (subst (λ (f : Option NextFault). Stops f talk rest) is stops) goes, goes, ap error_bytes text, end)

pub tells_fault : (a b : SinkState) (rest bytes : List ℕ) (talk next : TalkState) (stop : Option NextFault) (fault : RespFault) → Stops stop talk rest → stop ≡ Some (Faulty fault) → talk.is_over ≡ false
    → next ≡ ended talk → bytes ≡ fault_message fault → TakesBytes a b (error_bytes bytes) → TellsEnd a b rest talk next × (next.is_over ≡ true)
tells_fault a b rest bytes talk next stop fault stops is goes end text taken = (
  record { ending = faulty fault; tail = error_bytes bytes; ends = fault_ends rest bytes talk next stop fault stops is goes end text; taken = taken },
  ap (λ (t : TalkState). t.is_over) end,
)

pub fails_fault : (a b : SinkState) (rest bytes : List ℕ) (talk next : TalkState) (stop : Option NextFault) (fault : RespFault) → Stops stop talk rest → stop ≡ Some (Faulty fault) → talk.is_over ≡ false
    → next ≡ ended talk → bytes ≡ fault_message fault → TakesPart a b (error_bytes bytes) → FailsEnd a b rest talk next × (next.is_over ≡ true)
fails_fault a b rest bytes talk next stop fault stops is goes end text taken = (
  record { ending = faulty fault; tail = error_bytes bytes; ends = fault_ends rest bytes talk next stop fault stops is goes end text; taken = taken },
  ap (λ (t : TalkState). t.is_over) end,
)
