-- What is true where a command reports so: of the text on standard input, and of the words of the command line.
use Rattle.std.specs.Prelude.{◌≡◌, ◌↔◌, ◌⊎◌, ◌<◌, ◌≤◌, ℕ, List, [], ◌++◌, length, Option, Some, None, Err}
use Rattle.std.specs.Borrow.{Bor}
use Rattle.std.specs.Str.{IsUtf8}
use Rattle.bpf_model.specs.declared.input.Sizes.{Sizes}
use Rattle.bpf_model.specs.declared.input.Input.{Input}
use Rattle.bpf_model.specs.declared.instruction.Insn.{Insn}
use Rattle.bpf_model.specs.declared.limits.TheConstants.{KEY_BYTES, VALUE_BYTES}
use Rattle.bpf_model.specs.Fits.{Fits, first_unfit}
use Rattle.bpf_model.specs.Meaning.{Means}
use Rattle.bpf_model.specs.Program.{unit_count}
use Rattle.bpf_model.specs.Spelling.{Spells}
use Rattle.bpf_assembler.specs.Text.{IsTextOf}
use Rattle.bpf_assembler.specs.Faults as assemble
use Rattle.bpf_assembler.specs.declared.fault.AsmFault.TheVariants as asm_faults
use Rattle.bpf_decode.specs.Faults as decode
use Rattle.bpf_decode.specs.declared.fault.DecodeFault.TheVariants as decode_faults
use Rattle.flow_shape.specs.FlowShape as flow
use Rattle.verifier.specs.Faults as verify
use Rattle.verifier.specs.Plain.{IsPlain}
use Rattle.verifier.specs.declared.fault.VerifyFault.TheVariants.{NoMemory as OutOfMemory, SizesTooLarge}
use Rattle.admission.specs.Admissions.{IsAdmitted}
use Rattle.admission.specs.declared.fault.AdmissionFault.{AdmissionFault}
use Rattle.admission.specs.declared.fault.AdmissionFault.TheVariants.{Decode, Flow, Verify}
use Rattle.map_commands.specs.Hex.{SpellsBytes, IsFault}
use Rattle.map_commands.specs.declared.words.RunTexts.{RunTexts}
use Rattle.map_commands.specs.declared.words.Command.{Command}
use Rattle.map_commands.specs.declared.words.Command.TheVariants.{Asm, Disasm, Check, Explain, Run}
use Rattle.map_commands.specs.declared.refusal.Refusal.{Refusal}
use Rattle.map_commands.specs.declared.refusal.Refusal.TheVariants.{TooLong, NoMemory, NotHex, Assemble, Program}
use Rattle.map_commands.specs.declared.report.Report.{Report}
use Rattle.map_commands.specs.declared.report.Report.TheVariants.{Text, Accepted, Answered, Unfit, Refused, Explained}
use Rattle.verifier.specs.declared.abstract_state.AbstractState.{AbstractState}
use Rattle.verifier.specs.Walks.{KnowsRuns}
use Rattle.explanations.specs.Listings.{lines_below}
use Rattle.map_commands.specs.Reports.{unit_lines, report_text}

-- hex text spells the bytes of this program
pub record SpellsProgram (text : List ℕ) (program : List Insn) : Type 0 where
  pub bytes : List ℕ
  pub hex : SpellsBytes text bytes
  pub spelled : Spells bytes program

-- hex text spells the bytes of this program, and it is safe with these sizes
pub record SpellsSafe (text : List ℕ) (sizes : Sizes) (program : List Insn) : Type 0 where
  pub bytes : List ℕ
  pub hex : SpellsBytes text bytes
  pub admitted : IsAdmitted bytes sizes program

-- hex text spells this key
abbrev pub SpellsKey : List ℕ → List ℕ → Type 0
SpellsKey text key = SpellsBytes text key × (length key ≤ KEY_BYTES)

-- hex text spells this value; if there is no text there is no value
abbrev pub SpellsValue : Option (Bor (List ℕ)) → Option (List ℕ) → Type 0
SpellsValue None None = Unit {0}
SpellsValue None (Some value) = ⊥
SpellsValue (Some text) None = ⊥
SpellsValue (Some text) (Some value) = SpellsBytes text.now value × (length value ≤ VALUE_BYTES)

-- the texts of the command line spell this input
pub record SpellsInput (texts : RunTexts) (input : Input) : Type 0 where
  pub key : SpellsKey texts.key.now input.key
  pub old : SpellsValue texts.old input.old
  pub arg : SpellsValue texts.arg input.arg

-- why bytes spell no program at all
abbrev pub IsUndecoded : List ℕ → AdmissionFault → Type 0
IsUndecoded bytes (Decode fault) = (fault ≡ decode_faults.NoMemory) ⊎ decode.IsFirstDecodeFault bytes fault
IsUndecoded bytes (Flow fault) = ⊥
IsUndecoded bytes (Verify fault) = ⊥

-- why the text on standard input spells no bytes, or bytes that are refused so
abbrev pub IsHexRefused : List ℕ → (List ℕ → AdmissionFault → Type 0) → Refusal → Type 0
IsHexRefused text IsRefusedSo TooLong = ⊥
IsHexRefused text IsRefusedSo NoMemory = Unit {0}
IsHexRefused text IsRefusedSo (NotHex place) = IsFault text place
IsHexRefused text IsRefusedSo (Assemble fault) = ⊥
IsHexRefused text IsRefusedSo (Program fault) = (bytes : List ℕ) × SpellsBytes text bytes × IsRefusedSo bytes fault

-- why it spells no program
abbrev pub IsBytesRefused : List ℕ → Refusal → Type 0
IsBytesRefused text refusal = IsHexRefused text IsUndecoded refusal

-- why bytes spell no program that is found safe with these sizes: the first of the three steps that refuses. The last one refuses
-- no plain program unless memory runs out. `IsNotAdmitted` with the limits of any program says so
abbrev pub IsUnverified : List ℕ → Sizes → AdmissionFault → Type 0
IsUnverified bytes sizes (Decode fault) = (fault ≡ decode_faults.NoMemory) ⊎ decode.IsFirstDecodeFault bytes fault
IsUnverified bytes sizes (Flow fault) = (program : List Insn) × Spells bytes program × flow.IsFirstFlowFault program fault
IsUnverified bytes sizes (Verify fault) =
    (program : List Insn) × Spells bytes program × flow.IsWellShaped program
    × (verify.verify_fault_unit fault < unit_count program) × ((fault ≡ SizesTooLarge) ↔ verify.ExceedLimits sizes)
    × (IsPlain program sizes → fault ≡ OutOfMemory)

-- why it spells no program that is found safe with these sizes
abbrev pub IsProgramRefused : List ℕ → Sizes → Refusal → Type 0
IsProgramRefused text sizes refusal = IsHexRefused text (λ bytes fault. IsUnverified bytes sizes fault) refusal

-- why the text spells no value of at most this many bytes
abbrev pub IsTextRefused : List ℕ → ℕ → Refusal → Type 0
IsTextRefused text most TooLong = (bytes : List ℕ) × SpellsBytes text bytes × (most < length bytes)
IsTextRefused text most NoMemory = Unit {0}
IsTextRefused text most (NotHex place) = IsFault text place
IsTextRefused text most (Assemble fault) = ⊥
IsTextRefused text most (Program fault) = ⊥

abbrev pub IsValueRefused : Option (Bor (List ℕ)) → Refusal → Type 0
IsValueRefused None refusal = ⊥
IsValueRefused (Some text) refusal = IsTextRefused text.now VALUE_BYTES refusal

-- why the texts spell no input: the first of key, old value and argument that is refused
abbrev pub IsInputRefused : RunTexts → Refusal → Type 0
IsInputRefused texts refusal =
    IsTextRefused texts.key.now KEY_BYTES refusal
    ⊎ ((key : List ℕ) × SpellsKey texts.key.now key
    × (IsValueRefused texts.old refusal
    ⊎ ((old : Option (List ℕ)) × SpellsValue texts.old old × IsValueRefused texts.arg refusal)))

-- what holds of the program and the input of a run that is reported so
abbrev pub IsRunReport : Sizes → RunTexts → List ℕ → Report → Type 0
IsRunReport sizes texts text (Text printed) = ⊥
IsRunReport sizes texts text Accepted = ⊥
IsRunReport sizes texts text (Answered answer) =
    (program : List Insn) × SpellsSafe text sizes program
    × ((input : Input) × SpellsInput texts input × Fits input sizes × Means program sizes input answer)
IsRunReport sizes texts text (Unfit part) =
    (program : List Insn) × SpellsSafe text sizes program
    × ((input : Input) × SpellsInput texts input × (first_unfit input sizes ≡ Err part))
IsRunReport sizes texts text (Refused refusal) =
    IsProgramRefused text sizes refusal ⊎ ((program : List Insn) × SpellsSafe text sizes program × IsInputRefused texts refusal)
IsRunReport sizes texts text (Explained printed refusal) = ⊥

abbrev pub IsCheckReport : Sizes → List ℕ → Report → Type 0
IsCheckReport sizes text (Text printed) = ⊥
IsCheckReport sizes text Accepted = (program : List Insn) × SpellsSafe text sizes program
IsCheckReport sizes text (Answered answer) = ⊥
IsCheckReport sizes text (Unfit part) = ⊥
IsCheckReport sizes text (Refused refusal) = IsProgramRefused text sizes refusal
IsCheckReport sizes text (Explained printed refusal) = ⊥

-- lines that tell of each instruction what is known when a run comes to it, as far as the walk of the verifier comes
pub record ExplainsProgram (text : List ℕ) (sizes : Sizes) (lines : List ℕ) : Type 0 where
  pub program : List Insn
  pub spelled : SpellsProgram text program
  pub states : List (Option AbstractState)
  pub known : KnowsRuns program states sizes
  pub told : lines ≡ lines_below program states sizes (length program)

-- so if there are lines
abbrev pub IsExplanation : List ℕ → Sizes → List ℕ → Type 0
IsExplanation text sizes lines = (lines ≡ []) ⊎ ExplainsProgram text sizes lines

-- the last line of an explanation
abbrev pub verdict_line : Option Refusal → List ℕ
verdict_line None = report_text Accepted
verdict_line (Some refusal) = report_text (Refused refusal)

-- the verdict stands after such lines
abbrev pub EndsExplanation : List ℕ → Sizes → List ℕ → List ℕ → Type 0
EndsExplanation text sizes verdict printed = (lines : List ℕ) × IsExplanation text sizes lines × (printed ≡ lines ++ verdict)

abbrev pub IsExplainReport : Sizes → List ℕ → Report → Type 0
IsExplainReport sizes text (Text printed) =
    (program : List Insn) × SpellsSafe text sizes program × EndsExplanation text sizes (verdict_line None) printed.items
IsExplainReport sizes text Accepted = ⊥
IsExplainReport sizes text (Answered answer) = ⊥
IsExplainReport sizes text (Unfit part) = ⊥
IsExplainReport sizes text (Refused refusal) = IsProgramRefused text sizes refusal
IsExplainReport sizes text (Explained printed refusal) =
    IsProgramRefused text sizes refusal × EndsExplanation text sizes (verdict_line (Some refusal)) printed.items

-- why a text is no program's
abbrev pub IsAsmRefused : List ℕ → Refusal → Type 0
IsAsmRefused text TooLong = ⊥
IsAsmRefused text NoMemory = Unit {0}
IsAsmRefused text (NotHex place) = ⊥
IsAsmRefused text (Assemble fault) = (fault ≡ asm_faults.NoMemory) ⊎ assemble.IsFirstAsmFault text fault
IsAsmRefused text (Program fault) = ⊥

-- the bytes of the program whose text it is are printed, in hex that spells the program
abbrev pub IsAsmReport : List ℕ → Report → Type 0
IsAsmReport text (Text printed) =
    (program : List Insn) × IsTextOf text program × SpellsProgram printed.items program
    × ((bytes : List ℕ) × Spells bytes program × (printed.items ≡ unit_lines bytes))
IsAsmReport text Accepted = ⊥
IsAsmReport text (Answered answer) = ⊥
IsAsmReport text (Unfit part) = ⊥
IsAsmReport text (Refused refusal) = IsAsmRefused text refusal
IsAsmReport text (Explained printed refusal) = ⊥

-- the text of the program that hex text spells is printed
abbrev pub IsDisasmReport : List ℕ → Report → Type 0
IsDisasmReport text (Text printed) = (program : List Insn) × SpellsProgram text program × IsTextOf printed.items program
IsDisasmReport text Accepted = ⊥
IsDisasmReport text (Answered answer) = ⊥
IsDisasmReport text (Unfit part) = ⊥
IsDisasmReport text (Refused refusal) = IsBytesRefused text refusal
IsDisasmReport text (Explained printed refusal) = ⊥

-- the command reads a program's text, and this is no text
abbrev pub IsUnreadable : Command → List ℕ → Type 0
IsUnreadable Asm text = IsUtf8 text → ⊥
IsUnreadable Disasm text = ⊥
IsUnreadable (Check sizes) text = ⊥
IsUnreadable (Explain sizes) text = ⊥
IsUnreadable (Run sizes texts) text = ⊥

abbrev pub IsReport : Command → List ℕ → Report → Type 0
IsReport Asm text report = IsAsmReport text report
IsReport Disasm text report = IsDisasmReport text report
IsReport (Check sizes) text report = IsCheckReport sizes text report
IsReport (Explain sizes) text report = IsExplainReport sizes text report
IsReport (Run sizes texts) text report = IsRunReport sizes texts text report
