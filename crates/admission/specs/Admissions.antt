-- Which bytes are admitted as a program under which limits, and why others are refused. Our profile of RFC 9669.
use Rattle.std.specs.Prelude.{◌≡◌, ◌↔◌, ◌⊎◌, ◌<◌, ◌/◌, ◌%◌, ℕ, List, length}
use Rattle.bpf_model.specs.declared.limits.TheConstants.{KEY_BYTES, PROGRAM_UNITS, VALUE_BYTES}
use Rattle.bpf_model.specs.declared.input.Sizes.{Sizes}
use Rattle.bpf_model.specs.declared.instruction.Insn.{Insn}
use Rattle.bpf_model.specs.Meaning.{IsSafe}
use Rattle.bpf_model.specs.Program.{unit_count}
use Rattle.bpf_model.specs.Spelling.{Spells}
use Rattle.bpf_decode.specs.Faults as decode
use Rattle.bpf_decode.specs.Messages as decode_messages
use Rattle.bpf_decode.specs.declared.fault.DecodeFault.TheVariants.{NoMemory, TooManyUnits}
use Rattle.flow_shape.specs.FlowShape as flow
use Rattle.flow_shape.specs.Messages as flow_messages
use Rattle.verifier.specs.Faults as verify
use Rattle.verifier.specs.Messages as verify_messages
use Rattle.verifier.specs.Plain.{IsPlain}
use Rattle.verifier.specs.declared.fault.VerifyFault.TheVariants.{NoMemory as OutOfMemory, SizesTooLarge}
use Rattle.admission.specs.declared.fault.AdmissionFault.{AdmissionFault}
use Rattle.admission.specs.declared.fault.AdmissionFault.TheVariants.{Decode, Flow, Verify}

abbrev pub admission_fault_number : AdmissionFault → ℕ
admission_fault_number (Decode fault) = decode.decode_fault_number fault
admission_fault_number (Flow fault) = flow.flow_fault_number fault
admission_fault_number (Verify fault) = verify.verify_fault_number fault

abbrev pub admission_fault_unit : AdmissionFault → ℕ
admission_fault_unit (Decode fault) = decode.decode_fault_unit fault
admission_fault_unit (Flow fault) = flow.flow_fault_unit fault
admission_fault_unit (Verify fault) = verify.verify_fault_unit fault

-- the text of a fault
abbrev pub fault_message : AdmissionFault → List ℕ
fault_message (Decode fault) = decode_messages.decode_fault_message fault
fault_message (Flow fault) = flow_messages.flow_fault_message fault
fault_message (Verify fault) = verify_messages.verify_fault_message fault

-- the bytes spell this program, and it is safe with these sizes
pub record IsAdmitted (bytes : List ℕ) (sizes : Sizes) (program : List Insn) : Type 0 where
  pub spelled : Spells bytes program
  pub safe : IsSafe program sizes

-- the most units of a program, and the most bytes of its old value, argument and result
pub record Allowance : Type 0 where
  pub units : ℕ
  pub window : ℕ

-- the limits of any program
abbrev pub greatest : Allowance
greatest = record { units = PROGRAM_UNITS; window = VALUE_BYTES }

-- whole units, and more than the limits allow
abbrev pub HasManyUnits : Allowance → List ℕ → Type 0
HasManyUnits limits bytes = (length bytes % 8 ≡ 0) × (limits.units < length bytes / 8)

-- a declared size is above its limit
abbrev pub HasLargeWindow : Allowance → Sizes → Type 0
HasLargeWindow limits sizes =
    (KEY_BYTES < sizes.key) ⊎ ((limits.window < sizes.old) ⊎ ((limits.window < sizes.arg) ⊎ (limits.window < sizes.result)))

-- why the bytes are not admitted: the first step that refuses. The number of units is tested before any unit, and the sizes
-- before the verifier walks. The verifier refuses no plain program unless memory runs out
abbrev pub IsNotAdmitted : Allowance → List ℕ → Sizes → AdmissionFault → Type 0
IsNotAdmitted limits bytes sizes (Decode fault) =
    (HasManyUnits limits bytes × (fault ≡ TooManyUnits))
    ⊎ ((HasManyUnits limits bytes → ⊥) × ((fault ≡ NoMemory) ⊎ decode.IsFirstDecodeFault bytes fault))
IsNotAdmitted limits bytes sizes (Flow fault) =
    (HasManyUnits limits bytes → ⊥) × ((program : List Insn) × Spells bytes program × flow.IsFirstFlowFault program fault)
IsNotAdmitted limits bytes sizes (Verify fault) =
    (HasManyUnits limits bytes → ⊥) × ((program : List Insn) × Spells bytes program × flow.IsWellShaped program
    × (verify.verify_fault_unit fault < unit_count program) × ((fault ≡ SizesTooLarge) ↔ HasLargeWindow limits sizes)
    × (IsPlain program sizes → (fault ≡ OutOfMemory) ⊎ HasLargeWindow limits sizes))
