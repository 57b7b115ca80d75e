use Rattle.std.proofs.Common.{◌≡◌, ℕ, zero, suc, ◌++◌, refl, ap, ◌∙◌, append_assoc}
use Rattle.std.specs.Prelude.{codes, decimal}
use Rattle.bpf_model.specs.declared.limits.TheConstants.{PROGRAM_UNITS}
use Rattle.bpf_assembler.specs.declared.fault.AsmFault.{AsmFault}
use Rattle.bpf_assembler.specs.declared.fault.AsmFault.TheVariants.{BadCount}
use Rattle.bpf_assembler.specs.Faults.{asm_fault_message}
use Rattle.bpf_assembler.proofs.fault.AsmFaultDisplay.fmt.Goals as goal

past_units : (fault : AsmFault) (line : ℕ) → fault ≡ BadCount line → (line ≡ 0 → ⊥) → asm_fault_message fault ≡ codes "more than " ++ (decimal PROGRAM_UNITS ++ (codes " units in line " ++ decimal line))
past_units fault zero is some = absurd (some refl)
past_units fault (suc n) is some = ap asm_fault_message is ∙ ap (λ x. codes "more than " ++ x) (append_assoc (decimal PROGRAM_UNITS) (codes " units in line ") (decimal (suc n)))

pub returns-in-BadCount-clause-writes : goal.returns-in-BadCount-clause-writes
returns-in-BadCount-clause-writes g c = λ plain ok.
    let some : c.in-BadCount.line ≡ 0 → ⊥ = λ e. c.in-BadCount.line-test.1 (rw c.in-BadCount.is e) in
    rw (past_units c.args.self.now c.in-BadCount.line c.in-BadCount.is some) (c.write-in-BadCount.ensures.writes plain ok)
