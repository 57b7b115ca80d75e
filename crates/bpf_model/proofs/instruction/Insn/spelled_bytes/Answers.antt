use Rattle.std.proofs.Common.{arith, rules}
use Rattle.bpf_model.specs.Spelling.{IsInstruction}
use Rattle.bpf_model.proofs.SpellingLaws.{spelling-first, length-spelling}
use Rattle.bpf_model.proofs.instruction.Insn.spelled_bytes.Goals as goal

pub returns-clause-value : goal.returns-clause-value
returns-clause-value c = omega (arith, length-spelling c.args.self, c.units.ensures.value)

pub returns-clause-alone : goal.returns-clause-alone
returns-clause-alone c =
    let fits : IsInstruction c.args.self = search rules in
    λ other xs ys is e. spelling-first c.args.self other xs ys fits is e
