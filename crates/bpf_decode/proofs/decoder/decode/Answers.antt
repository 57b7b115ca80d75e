use Rattle.std.proofs.Common.{Ok, inl, inr}
use Rattle.bpf_decode.proofs.FaultLemmas.{IsTrueOf, IsTrueOf-passed, only_program, only_fault}
use Rattle.bpf_decode.proofs.decoder.decode.Goals as goal

wrong_length : (c : goal.After-from_residual) → IsTrueOf c.args.bytes.now c.from_residual.result
wrong_length c = IsTrueOf-passed c.args.bytes.now c.in_err-check_length.field-0.0 c.from_residual.result c.from_residual.ensures.1 (inr (inl c.in_err-check_length.ensures.err))

pub returns-in_err-check_length-clause-only : goal.returns-in_err-check_length-clause-only
returns-in_err-check_length-clause-only c = λ p h. only_program c.args.bytes.now p c.from_residual.result (wrong_length c) h

pub returns-in_err-check_length-clause-refused : goal.returns-in_err-check_length-clause-refused
returns-in_err-check_length-clause-refused c = λ e h. only_fault c.args.bytes.now e c.from_residual.result (wrong_length c) h

wrong_unit : (c : goal.After-from_residual-in_err-instructions) → IsTrueOf c.args.bytes.now c.from_residual-in_err-instructions.result
wrong_unit c =
    IsTrueOf-passed c.args.bytes.now c.in_err-instructions.field-0.0 c.from_residual-in_err-instructions.result c.from_residual-in_err-instructions.ensures.1
    (elim c.in_err-instructions.ensures.first_fault [ inl refused ↦ inl refused | inr faulty ↦ inr (inr (c.in_ok-check_length.ensures.ok, faulty)) ])

pub returns-in_err-instructions-clause-only : goal.returns-in_err-instructions-clause-only
returns-in_err-instructions-clause-only c = λ p h. only_program c.args.bytes.now p c.from_residual-in_err-instructions.result (wrong_unit c) h

pub returns-in_err-instructions-clause-refused : goal.returns-in_err-instructions-clause-refused
returns-in_err-instructions-clause-refused c = λ e h. only_fault c.args.bytes.now e c.from_residual-in_err-instructions.result (wrong_unit c) h

spelled : (c : goal.After-unwrap) → IsTrueOf c.args.bytes.now (Ok c.unwrap.result)
spelled c = record { found = rw (rw c.unwrap.ensures at c.new.ensures.value) c.in_ok-instructions.ensures.found; first_fault = tt }

pub returns-clause-only : goal.returns-clause-only
returns-clause-only c = λ p h. only_program c.args.bytes.now p (Ok c.unwrap.result) (spelled c) h

pub returns-clause-refused : goal.returns-clause-refused
returns-clause-refused c = λ e h. only_fault c.args.bytes.now e (Ok c.unwrap.result) (spelled c) h
