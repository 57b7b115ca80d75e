-- The meaning of requests, and the responses that depend on no state. Numbers and refusals are this map's profile.
use Rattle.std.specs.Prelude.{◌≡◌, ℕ, Bool, true, false, List, [], ◌∷◌, Option, Some, None}
use Rattle.bpf_model.specs.declared.input.Sizes.{Sizes}
use Rattle.verifier.specs.Checked.{Checked}
use Rattle.atomic_methods.specs.Invocations.{Invocation, on_key, get, put, put_if_absent, remove, remove_if, replace, replace_if, compute, compute_if_absent, compute_if_present, merge}
use Rattle.atomic_methods.specs.declared.reply.Reply.{Reply}
use Rattle.atomic_methods.specs.declared.reply.Reply.TheVariants as replied
use Rattle.atomic_methods.specs.declared.walk_reply.WalkKind.{WalkKind}
use Rattle.atomic_methods.specs.declared.walk_reply.WalkKind.TheVariants as kind
use Rattle.client_protocol.specs.declared.limits.Version.{Version}
use Rattle.client_protocol.specs.Requests.{Request}
use Rattle.client_protocol.specs.Requests.Request.{Hello, Register, Get, Put, PutIfAbsent, Remove, RemoveIf, Replace, ReplaceIf, Compute, ComputeIfAbsent, ComputeIfPresent, Merge, Search, ForEach, ReplaceAll, Count}
use Rattle.client_protocol.specs.declared.response.Response.{Response}
use Rattle.client_protocol.specs.declared.response.Response.TheVariants as tell
use Rattle.client_protocol.specs.Bodies.{limits_after}
use Rattle.admission.specs.Admissions.{Allowance, admission_fault_number, admission_fault_unit, IsAdmitted, IsNotAdmitted, HasManyUnits, HasLargeWindow}
use Rattle.admission.specs.declared.fault.AdmissionFault.{AdmissionFault}

-- the request, with the program in place of its number
pub data Asked : Type 0 where
  greeting : Version → Asked
  registration : Sizes → List ℕ → Asked
  call : Invocation → Asked
  walk : WalkKind → Checked → Option (List ℕ) → Asked
  replacement : Checked → Option (List ℕ) → Asked
  count : Asked
  unknown : Asked

-- with the program of this number, if there is one
abbrev pub with_program : Option Checked → (Checked → Asked) → Asked
with_program None asks = unknown
with_program (Some program) asks = asks program

-- for a lookup of programs by number; a threshold changes no answer
abbrev pub asked : (ℕ → Option Checked) → Request → Asked
asked find (Hello version) = greeting version
asked find (Register sizes program) = registration sizes program
asked find (Get key) = call (on_key key get)
asked find (Put key value) = call (on_key key (put value))
asked find (PutIfAbsent key value) = call (on_key key (put_if_absent value))
asked find (Remove key) = call (on_key key remove)
asked find (RemoveIf key expected) = call (on_key key (remove_if expected))
asked find (Replace key value) = call (on_key key (replace value))
asked find (ReplaceIf key expected value) = call (on_key key (replace_if expected value))
asked find (Compute key number arg) =
    with_program (find number) (λ program. call (on_key key (compute program arg)))
asked find (ComputeIfAbsent key number arg) =
    with_program (find number) (λ program. call (on_key key (compute_if_absent program arg)))
asked find (ComputeIfPresent key number arg) =
    with_program (find number) (λ program. call (on_key key (compute_if_present program arg)))
asked find (Merge key value number) =
    with_program (find number) (λ program. call (on_key key (merge value program)))
asked find (Search number arg threshold) =
    with_program (find number) (λ program. walk kind.Search program arg)
asked find (ForEach number arg threshold) =
    with_program (find number) (λ program. walk kind.ForEach program arg)
asked find (ReplaceAll number arg) = with_program (find number) (λ program. replacement program arg)
asked find Count = count

-- the number of the program that a call names, if it names one
abbrev pub named : Request → Option ℕ
named (Compute key number arg) = Some number
named (ComputeIfAbsent key number arg) = Some number
named (ComputeIfPresent key number arg) = Some number
named (Merge key value number) = Some number
named request = None

-- the request may change the map or the programs
abbrev pub may_change : Request → Bool
may_change (Hello version) = false
may_change (Get key) = false
may_change (Search number arg threshold) = false
may_change (ForEach number arg threshold) = false
may_change Count = false
may_change request = true

-- the request names a program and is a call
abbrev pub NamesProgram : Request → Type 0
NamesProgram (Compute key number arg) = Unit {0}
NamesProgram (ComputeIfAbsent key number arg) = Unit {0}
NamesProgram (ComputeIfPresent key number arg) = Unit {0}
NamesProgram (Merge key value number) = Unit {0}
NamesProgram request = ⊥

-- the request is a call
abbrev pub IsCall : Request → Type 0
IsCall (Get key) = Unit {0}
IsCall (Put key value) = Unit {0}
IsCall (PutIfAbsent key value) = Unit {0}
IsCall (Remove key) = Unit {0}
IsCall (RemoveIf key expected) = Unit {0}
IsCall (Replace key value) = Unit {0}
IsCall (ReplaceIf key expected value) = Unit {0}
IsCall request = NamesProgram request

-- the response with a call's reply
abbrev pub response_to : Reply → Response
response_to (replied.Value value) = tell.Value value
response_to (replied.Done done) = tell.Done done
response_to (replied.Unfit part) = tell.Unfit part

-- the limits of a program that is sent after this Hello: those of the version
abbrev pub program_limits : Option Version → Allowance
program_limits hello = let limits = limits_after hello in record { units = limits.units; window = limits.value }

-- the bytes, sent after this Hello, spell this program, which is safe with these sizes and within their limits
pub record Admits (hello : Option Version) (sizes : Sizes) (bytes : List ℕ) (program : Checked) : Type 0 where
  pub admitted : IsAdmitted bytes sizes program.program
  pub declared : program.sizes ≡ sizes
  pub units : HasManyUnits (program_limits hello) bytes → ⊥
  pub windows : HasLargeWindow (program_limits hello) sizes → ⊥

-- the response gives the first step that refuses the program, and the unit
abbrev pub RefusesProgram : Option Version → Sizes → List ℕ → Response → Type 0
RefusesProgram hello sizes bytes response =
    (fault : AdmissionFault) × IsNotAdmitted (program_limits hello) bytes sizes fault
    × (response ≡ tell.Refused (admission_fault_number fault) (admission_fault_unit fault))

module _ {S : Type 0} where
  -- one response, and nothing changes
  abbrev pub AnswersOnce : S → Response → List Response → S → Type 0
  AnswersOnce old response responses new = (responses ≡ response ∷ []) × (new ≡ old)

  -- a request for memory was refused
  abbrev pub TellsNoMemory : S → List Response → S → Type 0
  TellsNoMemory old responses new = AnswersOnce old (tell.Refused 9 0) responses new
