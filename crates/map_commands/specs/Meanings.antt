-- What a refusal means, in words: the line that standard error is told of it.
use Rattle.std.specs.Prelude.{◌≡◌, ℕ, List, [], ◌++◌, codes, decimal, Option, Some, None, option_and_then}
use Rattle.bpf_model.specs.declared.input.Sizes.{Sizes}
use Rattle.bpf_model.specs.declared.instruction.Insn.{Insn}
use Rattle.bpf_model.specs.Program.{instruction_at}
use Rattle.bpf_assembler.specs.Text.{instruction_text}
use Rattle.bpf_assembler.specs.Faults as assemble
use Rattle.verifier.specs.Faults.{verify_fault_unit}
use Rattle.verifier.specs.Messages as verify
use Rattle.flow_shape.specs.FlowShape.{flow_fault_unit}
use Rattle.flow_shape.specs.Messages as flow
use Rattle.flow_shape.specs.declared.fault.FlowFault.{FlowFault}
use Rattle.verifier.specs.declared.fault.VerifyFault.{VerifyFault}
use Rattle.admission.specs.Admissions.{fault_message}
use Rattle.admission.specs.declared.fault.AdmissionFault.TheVariants.{Flow, Verify}
use Rattle.map_commands.specs.declared.refusal.Refusal.{Refusal}
use Rattle.map_commands.specs.declared.refusal.Refusal.TheVariants.{TooLong, NoMemory, NotHex, Assemble, Program}
use Rattle.map_commands.specs.declared.words.Command.{Command}
use Rattle.map_commands.specs.declared.words.Command.TheVariants.{Asm, Disasm, Check, Explain, Run}
use Rattle.map_commands.specs.Commands.{SpellsProgram}
use Rattle.explanations.specs.Reasons.{IsKnownReason}

-- the sizes with which a command verifies
abbrev pub sizes_asked : Command → Option Sizes
sizes_asked Asm = None
sizes_asked Disasm = None
sizes_asked (Check sizes) = Some sizes
sizes_asked (Explain sizes) = Some sizes
sizes_asked (Run sizes texts) = Some sizes

-- what a refusal is displayed as
abbrev pub refusal_message : Refusal → List ℕ
refusal_message TooLong = codes "too many bytes"
refusal_message NoMemory = codes "no memory"
refusal_message (NotHex place) = codes "no hex text at place " ++ decimal place
refusal_message (Assemble fault) = assemble.asm_fault_message fault
refusal_message (Program fault) = fault_message fault

-- the instruction that the verifier refuses; memory and sizes are refused of none
abbrev pub refused_instruction : List Insn → VerifyFault → Option Insn
refused_instruction program fault = option_and_then (instruction_at program) (verify.named_unit fault)

-- an instruction that is refused is told with its unit and its text, and with what is known
abbrev pub verdict : VerifyFault → Insn → List ℕ → List ℕ
verdict fault insn known =
    codes "unit " ++ decimal (verify_fault_unit fault) ++ codes ": " ++ instruction_text insn ++ codes ": " ++ verify.verify_fault_reason fault ++ known ++ codes "\n"

-- what is known of each run with these sizes that comes to the instruction; nothing if no sizes are asked for
abbrev pub IsKnownText : List Insn → Option Sizes → VerifyFault → Insn → List ℕ → Type 0
IsKnownText program None fault insn known = known ≡ []
IsKnownText program (Some sizes) fault insn known = IsKnownReason program sizes fault insn known

abbrev pub TellsInstruction : List Insn → Option Sizes → VerifyFault → Option Insn → List ℕ → Type 0
TellsInstruction program sizes fault None line = line ≡ verify.verify_fault_message fault ++ codes "\n"
TellsInstruction program sizes fault (Some insn) line = (known : List ℕ) × IsKnownText program sizes fault insn known × (line ≡ verdict fault insn known)

-- the refused instruction is one of the program that the text on standard input spells
abbrev pub IsVerdict : Command → List ℕ → VerifyFault → List ℕ → Type 0
IsVerdict command text fault line =
    (program : List Insn) × SpellsProgram text program × TellsInstruction program (sizes_asked command) fault (refused_instruction program fault) line

-- a refused jump, or a last instruction that is none, is told with its text
abbrev pub TellsFlow : FlowFault → Option Insn → List ℕ → Type 0
TellsFlow fault None line = line ≡ flow.flow_fault_message fault ++ codes "\n"
TellsFlow fault (Some insn) line = line ≡ flow.flow_fault_message fault ++ codes ": " ++ instruction_text insn ++ codes "\n"

abbrev pub IsFlowVerdict : List ℕ → FlowFault → List ℕ → Type 0
IsFlowVerdict text fault line =
    (program : List Insn) × SpellsProgram text program × TellsFlow fault (instruction_at program (flow_fault_unit fault)) line

-- the line that tells a command's refusal of this text
abbrev pub IsMeaning : Command → List ℕ → Refusal → List ℕ → Type 0
IsMeaning command text (Program (Flow fault)) line = IsFlowVerdict text fault line
IsMeaning command text (Program (Verify fault)) line = IsVerdict command text fault line
IsMeaning command text refusal line = line ≡ refusal_message refusal ++ codes "\n"
