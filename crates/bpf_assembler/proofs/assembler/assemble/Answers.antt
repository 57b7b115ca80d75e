use Rattle.std.proofs.Common.{◌≡◌, ◌⊎◌, List, ℕ, Ok, Err, inl, inr, refl, sym, subst, ◌∙◌}
use Rattle.bpf_assembler.specs.declared.fault.AsmFault.TheVariants.{NoMemory, BadCount}
use Rattle.bpf_assembler.specs.Faults.{IsFaultyLine, IsFirstAsmFault}
use Rattle.bpf_assembler.proofs.FaultLemmas.{IsTrueOf, IsTrueOf-passed, only_program, only_fault, empty_text}
use Rattle.bpf_assembler.proofs.assembler.assemble.Goals as goal

wrong_line : (c : goal.After-from_residual) → IsTrueOf c.args.text.now c.from_residual.result
wrong_line c =
    let fault = c.in_err-instructions.field-0.0 in
    IsTrueOf-passed c.args.text.now fault c.from_residual.result c.from_residual.ensures.1 (elim c.in_err-instructions.ensures.first_fault [
      | inl refused ↦ inl refused
      | inr faulty ↦ inr (inr (subst (λ (t : List ℕ). IsFaultyLine t fault) c.as_bytes.ensures.value faulty))
    ])

pub returns-in_err-instructions-clause-only : goal.returns-in_err-instructions-clause-only
returns-in_err-instructions-clause-only c = λ p h. only_program c.args.text.now p c.from_residual.result (wrong_line c) h

pub returns-in_err-instructions-clause-refused : goal.returns-in_err-instructions-clause-refused
returns-in_err-instructions-clause-refused c = λ e h. only_fault c.args.text.now e c.from_residual.result (wrong_line c) h

program : (c : goal.In-Some) → IsTrueOf c.args.text.now (Ok c.in-Some.program)
program c =
    let read = c.in_ok-instructions.ensures in
    record {
      found = rw c.in-Some.ensures.value (record { program = c.in-Some.ensures.some.0 refl; fits = read.fits; lines = sym c.as_bytes.ensures.value ∙ read.lines });
      first_fault = tt;
    }

pub returns-in-Some-clause-only : goal.returns-in-Some-clause-only
returns-in-Some-clause-only c = λ p h. only_program c.args.text.now p (Ok c.in-Some.program) (program c) h

pub returns-in-Some-clause-refused : goal.returns-in-Some-clause-refused
returns-in-Some-clause-refused c = λ e h. only_fault c.args.text.now e (Ok c.in-Some.program) (program c) h

no_line_at_all : (c : goal.In-None) → (BadCount 0 ≡ NoMemory) ⊎ IsFirstAsmFault c.args.text.now (BadCount 0)
no_line_at_all c =
    let read = c.in_ok-instructions.ensures in
    let none = empty_text c.args.text.now c.in_ok-instructions.instructions.items (λ h. absurd (let wrong = c.in-None.ensures.some.1 h in cc)) read.bounded (sym c.as_bytes.ensures.value ∙ read.lines) in
    inr (inl (none, refl))

empty : (c : goal.In-None) → IsTrueOf c.args.text.now (Err (BadCount 0))
empty c = record { found = tt; first_fault = no_line_at_all c }

pub returns-in-None-clause-only : goal.returns-in-None-clause-only
returns-in-None-clause-only c = λ p h. only_program c.args.text.now p (Err (BadCount 0)) (empty c) h

pub returns-in-None-clause-refused : goal.returns-in-None-clause-refused
returns-in-None-clause-refused c = λ e h. only_fault c.args.text.now e (Err (BadCount 0)) (empty c) h

pub returns-in-None-clause-first_fault : goal.returns-in-None-clause-first_fault
returns-in-None-clause-first_fault c = no_line_at_all c
