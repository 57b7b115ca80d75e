-- What the verifier knew of an instruction that it refuses, in words.
use Rattle.std.specs.Prelude.{◌≡◌, ◌⊎◌, ◌<◌, ℕ, Bool, true, false, List, [], ◌++◌, codes, Option, Some, None, length, take, slice_get}
use Rattle.bpf_model.specs.declared.input.Input.{Input}
use Rattle.bpf_model.specs.declared.input.Sizes.{Sizes}
use Rattle.bpf_model.specs.declared.instruction.Insn.{Insn}
use Rattle.bpf_model.specs.declared.window.Window.TheVariants.{Result}
use Rattle.bpf_model.specs.Accesses.{byte_count}
use Rattle.bpf_model.specs.Fits.{Fits, HasInputBytes}
use Rattle.bpf_model.specs.Meaning.{Reaches}
use Rattle.bpf_model.specs.Program.{unit_count}
use Rattle.bpf_model.specs.State.{State}
use Rattle.stack_slots.specs.declared.frame.Frame.{Frame}
use Rattle.stack_slots.specs.declared.reg_value.RegValue.{RegValue}
use Rattle.stack_slots.specs.Frames.{is_written}
use Rattle.verifier.specs.declared.abstract_state.AbstractState.{AbstractState}
use Rattle.verifier.specs.declared.fault.VerifyFault.{VerifyFault}
use Rattle.verifier.specs.declared.fault.VerifyFault.TheVariants.{UnwrittenRegister, NotAWindow, OutOfWindow, ReadOnly, UnwrittenBytes, BadExitValue}
use Rattle.verifier.specs.Describes.{Describes}
use Rattle.verifier.specs.Faults.{verify_fault_unit}
use Rattle.verifier.specs.Joins.{register}
use Rattle.verifier.specs.Walks.{KnowsRuns}
use Rattle.explanations.specs.declared.access.Touch.{Touch}
use Rattle.explanations.specs.Known.{value_text}
use Rattle.explanations.specs.Accesses.{touch_of, count_text, access_text, read_only_text, unwritten_text}
use Rattle.explanations.specs.Origins.{register_text, unwritten_read}

-- what the answer's length may be, and how many of the result's first bytes were written
abbrev pub exit_text : RegValue → ℕ → List ℕ
exit_text value written = codes ": r0 is " ++ value_text value ++ codes ", with " ++ count_text written ++ codes " of the result written"

-- this many of the result's first bytes were written, and not the next
pub record IsWrittenPrefix (f : Frame) (n : ℕ) : Type 0 where
  pub written : (i : ℕ) → i < n → is_written f Result i ≡ true
  pub greatest : is_written f Result n ≡ false

abbrev pub IsExitReason : AbstractState → List ℕ → Type 0
IsExitReason a text = (n : ℕ) × IsWrittenPrefix a.frame n × (text ≡ exit_text (register a 0) n)

-- what the address of a load or store is
abbrev pub address_reason : List Insn → List (Option AbstractState) → AbstractState → Option Touch → List ℕ
address_reason before states a None = []
address_reason before states a (Some t) = register_text before states t.register (register a t.register)

-- which register is read that was perhaps not written
abbrev pub unwritten_reason : List Insn → List (Option AbstractState) → AbstractState → Option ℕ → List ℕ
unwritten_reason before states a None = []
unwritten_reason before states a (Some r) = register_text before states r (register a r)

-- where a load or store may lie
abbrev pub access_reason : Sizes → AbstractState → Option Touch → List ℕ
access_reason sizes a None = []
access_reason sizes a (Some t) = access_text sizes (register a t.register) t.offset (byte_count t.size)

-- into which window a store goes
abbrev pub store_reason : AbstractState → Option Touch → List ℕ
store_reason a None = []
store_reason a (Some t) = read_only_text t.register (register a t.register)

-- which bytes a load reads
abbrev pub load_reason : AbstractState → Option Touch → List ℕ
load_reason a None = []
load_reason a (Some t) = unwritten_text a.frame (register a t.register) t.offset (byte_count t.size)

-- what is told of an instruction by what is known of those before it and of itself
abbrev pub IsReason : List Insn → List (Option AbstractState) → Sizes → VerifyFault → Insn → AbstractState → List ℕ → Type 0
IsReason before states sizes (UnwrittenRegister unit) i a text = text ≡ unwritten_reason before states a (unwritten_read i a 11)
IsReason before states sizes (NotAWindow unit) i a text = text ≡ address_reason before states a (touch_of i)
IsReason before states sizes (OutOfWindow unit) i a text = text ≡ access_reason sizes a (touch_of i)
IsReason before states sizes (ReadOnly unit) i a text = text ≡ store_reason a (touch_of i)
IsReason before states sizes (UnwrittenBytes unit) i a text = text ≡ load_reason a (touch_of i)
IsReason before states sizes (BadExitValue unit) i a text = IsExitReason a text
IsReason before states sizes fault i a text = ⊥

-- so if it was come to
pub record IsReasonAfter (before : List Insn) (states : List (Option AbstractState)) (sizes : Sizes) (fault : VerifyFault) (insn : Insn) (text : List ℕ) : Type 0 where
  pub state : AbstractState
  pub here : slice_get states (length before) ≡ Some (Some state)
  pub told : IsReason before states sizes fault insn state text

abbrev pub is_told : VerifyFault → Bool
is_told (UnwrittenRegister unit) = true
is_told (NotAWindow unit) = true
is_told (OutOfWindow unit) = true
is_told (ReadOnly unit) = true
is_told (UnwrittenBytes unit) = true
is_told (BadExitValue unit) = true
is_told fault = false

-- each run on an input that fits is in a state that is described when it comes to the unit
abbrev pub DescribesAt : List Insn → Sizes → ℕ → AbstractState → Type 0
DescribesAt program sizes unit a =
    (input : Input) → HasInputBytes input → Fits input sizes → (n : ℕ) (s : State) → Reaches program sizes input n s → s.unit ≡ unit → Describes a sizes s

-- the text tells what is known of every run that comes to the instruction, and of every run that comes to those before it
pub record TellsKnown (program : List Insn) (sizes : Sizes) (fault : VerifyFault) (insn : Insn) (text : List ℕ) : Type 0 where
  pub states : List (Option AbstractState)
  pub known : KnowsRuns program states sizes
  pub index : ℕ
  pub at : unit_count (take index program) ≡ verify_fault_unit fault
  pub state : AbstractState
  pub described : DescribesAt program sizes (verify_fault_unit fault) state
  pub told : IsReason (take index program) states sizes fault insn state text

-- so if it tells something
abbrev pub IsKnownReason : List Insn → Sizes → VerifyFault → Insn → List ℕ → Type 0
IsKnownReason program sizes fault insn text = (text ≡ []) ⊎ TellsKnown program sizes fault insn text
